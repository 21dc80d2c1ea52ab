use Rattle.instance_urls.proofs.UrlBytes.{first_bytes, later_bytes}
use Rattle.instance_urls.proofs.url.urls_need_no_escapes.Goals as goal

pub returns-clause-first : goal.returns-clause-first
returns-clause-first c = first_bytes

pub returns-clause-later : goal.returns-clause-later
returns-clause-later c = later_bytes
