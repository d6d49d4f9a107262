-- The spelling of parts, on worked rows.
use Rattle.std.proofs.Common.{◌≡◌, [], ◌∷◌, ◌++◌, refl}
use Rattle.std.specs.Prelude.{codes}
use Rattle.ot_model.specs.declared.op.Kind.TheVariants.{Ins, Upd}
use Rattle.fn_rules.specs.declared.function.Level.TheVariants.{Tp1, Tp2}
use Rattle.fn_rules.specs.declared.function.ObName.TheVariants.{Pair, Triple}
use Rattle.ask_core.specs.declared.tree.Tok.TheVariants as token
use Rattle.cert_text.specs.declared.item.Part.TheVariants as part
use Rattle.cert_text.specs.Spelling.{header_text, ob_text}
use Rattle.cert_text.specs.Places.{Line, Tree, Finish, place_after}

header_of_insertions : header_text (Pair Ins Ins ∷ []) Tp1 ≡ codes "otcert 1 tp1" ++ 10 ∷ []
header_of_insertions = refl

header_of_updates : header_text (Pair Ins Ins ∷ Pair Ins Upd ∷ []) Tp2 ≡ codes "otcert 2 tp2" ++ 10 ∷ []
header_of_updates = refl

line_of_three : ob_text (Triple Ins Ins Upd) ≡ codes "ob ins ins upd" ++ 10 ∷ []
line_of_three = refl

question_opens_a_branch : place_after (Tree 1 [] 1) (part.Tok token.Ask) ≡ Tree 1 [] 2
question_opens_a_branch = refl

end_closes_it : place_after (Tree 1 [] 1) (part.Tok token.Holds) ≡ Tree 1 [] 0
end_closes_it = refl

last_line_comes_last : place_after (Line 1 []) part.End ≡ Finish
last_line_comes_last = refl
