-- Bytes that are read as JSON, and bytes that are not.
use Rattle.std.proofs.Common.{◌≡◌, ℕ, List, Bool, true, false, Some, None, refl, sym}
use Rattle.std.specs.Prelude.{IsUtf8, if◌then◌else◌}
use Rattle.std.specs.Str.{is_utf8}
use Rattle.std.proofs.lemmas.Str.{IsUtf8-from_is_utf8, is_utf8-from_IsUtf8}
use Rattle.serde_json.specs.Data.{Data}
use Rattle.serde_json.specs.Read.{read}
use Rattle.case_json.specs.Json.{json_in}

pub json-read : (bytes : List ℕ) (json : Data) → IsUtf8 bytes → read bytes ≡ Some json → Some json ≡ json_in bytes
json-read bytes json utf8 is = rw (is_utf8-from_IsUtf8 bytes utf8, is) refl

pub json-unread : (bytes : List ℕ) → (IsUtf8 bytes → read bytes ≡ None) → None ≡ json_in bytes
json-unread bytes none = by (is_utf8 bytes) refl
  where
    by : (utf8 : Bool) → is_utf8 bytes ≡ utf8 → None ≡ (if utf8 then read bytes else None)
    by true is = sym (none (IsUtf8-from_is_utf8 bytes is))
    by false is = refl
