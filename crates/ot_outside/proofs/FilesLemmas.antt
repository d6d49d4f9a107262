-- Files in memory: the one that a name finds, and what is left of it.
use Rattle.std.proofs.Common.{◌≡◌, ℕ, ◌+◌, ◌<◌, true, List, [], ◌∷◌, ◌++◌, length, take, drop, drop-cons, get_or, min}
use Rattle.std.proofs.Common.{suc, Some, String, Vec, refl, sym, ap, ◌∙◌}
use Rattle.std.specs.Prelude.{bytes_eq, string_bytes, slice_get, option_map, unwrap_or}
use Rattle.std.specs.declared.alloc.Global.{Global}
use Rattle.std.proofs.lemmas.List.{drop-drop, drop_min, take-append-drop}
use Rattle.std.proofs.lemmas.Option.{slice_get_read}
use Rattle.ot_outside.specs.Files.{Files, contents_at, held}

-- the bytes from `taken` on are the next n of them and those behind
pub drop-split :
    (contents given : List ℕ) (taken from n : ℕ) → from ≡ min taken (length contents)
    → given ≡ take n (drop from contents)
    → drop taken contents ≡ given ++ drop (from + n) contents
drop-split contents given taken from n e f =
    rw (
      f,
      e,
      ← drop-drop n (min taken (length contents)) contents,
      take-append-drop n (drop (min taken (length contents)) contents),
    ) (sym (drop_min taken contents))

-- a file at the front that has the name is the one that the name finds
held-front :
    (file : String Global × Vec ℕ Global) (files : Files) (name : List ℕ) → bytes_eq (string_bytes file.0) name ≡ true
    → held (file ∷ files) name ≡ Some (file.1.items)
held-front file files name e = rw e refl

-- where no file before the i-th has the name and the i-th has it, the name finds the i-th
pub held_at :
    (files : Files) (name : List ℕ) (i : ℕ) (file : String Global × Vec ℕ Global) → i < length files
    → file ≡ get_or files i file
    → bytes_eq (string_bytes file.0) name ≡ true → held files name ≡ held (drop i files) name
    → held files name ≡ Some (contents_at files i)
held_at files name i file h e t skipped =
    let here : slice_get files i ≡ Some file = slice_get_read files (length files) i file refl h e in
    let front : drop i files ≡ file ∷ drop (suc i) files = drop-cons files i file h
    ∙ ap (λ x. x ∷ drop (suc i) files) (sym e) in
    let contents : contents_at files i ≡ file.1.items =
    ap (λ found. unwrap_or (option_map (λ f. f.1.items) found) []) here in
    skipped
    ∙ (ap (λ rest. held rest name) front ∙ (held-front file (drop (suc i) files) name t ∙ ap Some (sym contents)))
