-- What a script that was read keeps.
use Rattle.std.proofs.Common.{◌≡◌, ◌≤◌, ℕ, Bool, true, false, Option, Some, None, Ok, Err, refl, arith, nat_eq, nat_le}
use Rattle.std.proofs.Common.{if◌then◌else◌}
use Rattle.std.proofs.lemmas.Bool.{leb-true}
use Rattle.case_json.specs.declared.limits.TheConstants.{MAX_SITES}
use Rattle.case_json.specs.declared.fault.CaseFault.TheVariants.{Field, Limit}
use Rattle.case_json.specs.declared.fault.Name.TheVariants.{Sites}
use Rattle.case_json.specs.Parts.{sites_from}

-- there are some sites, and not too many
pub sites_from-within : (found : Option ℕ) (sites : ℕ) → Ok sites ≡ sites_from found → (1 ≤ sites) × (sites ≤ MAX_SITES)
sites_from-within None sites is = cc
sites_from-within (Some n) sites is = by (nat_eq n 0) (nat_le n MAX_SITES) refl refl is
  where
    by : (none few : Bool) → nat_eq n 0 ≡ none → nat_le n MAX_SITES ≡ few
        → Ok sites ≡ (if none then Err (Field Sites) else (if few then Ok n else Err (Limit Sites)))
        → (1 ≤ sites) × (sites ≤ MAX_SITES)
    by true few is_none is_few is = cc
    by false false is_none is_few is = cc
    by false true is_none is_few is =
        let same : sites ≡ n = cc in
        rw same (grind (arith, is_none), leb-true n MAX_SITES is_few)
