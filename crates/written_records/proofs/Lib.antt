mod Typed
