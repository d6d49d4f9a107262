-- The texts, computed on edits by hand.
use Rattle.std.proofs.Common.{◌≡◌, pos, [], ◌∷◌, ◌++◌, codes, refl}
use Rattle.std.specs.Fmt.{digits}
use Rattle.ot_model.specs.declared.op.Kind.TheVariants.{Ins, Del}
use Rattle.fn_rules.specs.declared.guard.Cmp.TheVariants.{Lt, Le}
use Rattle.fn_rules.specs.declared.guard.Side.TheVariants.{First}
use Rattle.fn_rules.specs.declared.guard.Sort.TheVariants.{Pos, Site}
use Rattle.fn_rules.specs.declared.function.Res.TheVariants as results
use Rattle.fn_rules.specs.Shipped.{offby, p1_plus, ties}
use Rattle.fn_grammar.specs.Print.{printed}
use Rattle.ot_mend.specs.declared.change.Change.TheVariants.{NewAtom, NewResult, TakeOut, Exchange, PutIn}
use Rattle.ot_mend.specs.declared.change.NewGuard.TheVariants as new
use Rattle.ot_mend.specs.declared.edit.Edit.TheVariants.{InBlock, AssumeSites}
use Rattle.ot_mend.specs.Offers.{plain_atom}
use Rattle.mend_texts.specs.Texts.{comment_lines, edit_text, mended_text}

-- the slip of `offby` mended
slip : edit_text offby (InBlock Ins Del (NewAtom 0 0 (plain_atom Pos First Lt) (plain_atom Pos First Le)))
    ≡ codes "ins del 0: p1 < p2 becomes p1 <= p2"
unfolding digits
slip = refl

another_result : edit_text offby (InBlock Ins Del (NewResult 1 (p1_plus (pos 0)) results.Nop))
    ≡ codes "ins del 1: ins p1 becomes nop"
unfolding digits
another_result = refl

-- a case that is taken out is that of the function
taken_out : edit_text offby (InBlock Ins Del (TakeOut 0)) ≡ codes "ins del 0: case p1 < p2 : ins p1 taken out"
unfolding digits
taken_out = refl

changed_places : edit_text offby (InBlock Ins Ins (Exchange 0)) ≡ codes "ins ins 0: changes places with 1"
unfolding digits
changed_places = refl

put_in : edit_text offby (InBlock Del Del (PutIn 0 (new.Tie (plain_atom Site First Lt)) results.Nop))
    ≡ codes "del del 0: case p1 = p2 and s1 < s2 : nop put in"
unfolding digits
put_in = refl

-- of two edits the second one is told of the function that the first one leaves
one_behind_another :
    comment_lines offby (InBlock Ins Del (TakeOut 0) ∷ InBlock Ins Del (TakeOut 0) ∷ AssumeSites ∷ [])
    ≡ codes "# ins del 0: case p1 < p2 : ins p1 taken out" ++ 10
    ∷ codes "# ins del 0: case true : ins p1 - 1 taken out" ++ 10
    ∷ codes "# assumes more: sites differ" ++ 10 ∷ []
unfolding digits
one_behind_another = refl

no_edits : mended_text ties [] ≡ codes "# as it was" ++ 10 ∷ printed ties
no_edits = refl
