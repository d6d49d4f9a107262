-- The parts one behind another.
use Rattle.std.proofs.Common.{◌≡◌, ◌++◌, ◌∷◌, [], List, ℕ, ℤ, ap, ◌∙◌, rules}
use Rattle.std.specs.Int.{w64}
use Rattle.std.proofs.lemmas.Result.{IfOk-equal}
use Rattle.std.proofs.lemmas.Int.{to_z-of_z}
use Rattle.std.specs.Fmt.{decimal, signed_decimal}
use Rattle.std.specs.Prelude.{encode_utf8_all}
use mir.Val.{to_z, of_z}
use Rattle.case_json.specs.DocText.{char_text}
use Rattle.ot_replies.proofs.Lines.{parts_joined}
use Rattle.ot_replies.proofs.texts.counters.write_with_char.Goals as goal

-- the word, the position, the character and the site, with spaces between them
pub returns : goal.returns
returns c =
    let word = c.args.word.now in
    let ch = encode_utf8_all (char_text c.args.ch) in
    let site = decimal c.args.site in
    let at : ℤ = to_z w64 (of_z w64 c.args.at) in
    let same : at ≡ c.args.at = search (rules, to_z-of_z) in
    IfOk-equal c.write_site.result _ _ _ c.write_site.ensures
    (ap (λ (l : List ℕ). l ++ (32 ∷ [] ++ site))
    (c.in_ok-char_write.ensures.ok
    ∙ ap (λ (l : List ℕ). l ++ ch)
    (c.in_ok-write_position.ensures
    ∙ ap (λ (l : List ℕ). l ++ (32 ∷ [] ++ signed_decimal at ++ 32 ∷ [])) c.in_ok-write_word.ensures))
    ∙ (parts_joined c.args.out.now.items word (signed_decimal at) ch site
    ∙ ap (λ (a : ℤ). c.args.out.now.items ++ (word ++ 32 ∷ [] ++ signed_decimal a ++ 32 ∷ [] ++ ch ++ 32 ∷ [] ++ site))
    same))
