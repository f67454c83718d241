-- From bytes to a session.
use Rattle.std.proofs.Common.{◌≡◌, ℕ, List, Some, None, Bool, true, false, refl}
use Rattle.std.specs.Prelude.{Option, if◌then◌else◌}
use Rattle.std.specs.Str.{IsUtf8, is_utf8}
use Rattle.std.proofs.lemmas.Str.{is_utf8-from_IsUtf8, IsUtf8-from_is_utf8}
use Rattle.std.proofs.Common.{Err}
use Rattle.serde_json.specs.Read as serde
use Rattle.session_reading.specs.declared.error.SessionError.TheVariants.{NotJson}
use Rattle.session_reading.specs.Refusing.{◌>>=◌}
use Rattle.session_reading.specs.Reading.{Json, or_refuse}
use Rattle.session_text.specs.Session.{session_read, session_of}

pub session_of_json : (bytes : List ℕ) (j : Json) → IsUtf8 bytes → serde.read bytes ≡ Some j → session_of bytes ≡ session_read j
session_of_json bytes j utf8 e = rw (is_utf8-from_IsUtf8 bytes utf8, e) refl

none_read : (b : Bool) (o : Option Json) → (b ≡ true → o ≡ None) → or_refuse (if b then o else None) (Err NotJson) >>= session_read ≡ Err NotJson
none_read true o h = rw (h refl) refl
none_read false o h = refl

pub session_of_none : (bytes : List ℕ) → (IsUtf8 bytes → serde.read bytes ≡ None) → session_of bytes ≡ Err NotJson
session_of_none bytes h = none_read (is_utf8 bytes) (serde.read bytes) (λ e. h (IsUtf8-from_is_utf8 bytes e))
