mod KindCodes
