-- The edits that mending came to are made one after another, and lead to its function.
use Rattle.std.proofs.Common.{◌≡◌, ℕ, List, sym, ap, ◌∙◌, subst}
use Rattle.fn_rules.specs.Functions.{Function}
use Rattle.fn_rules.specs.Rules.{function_of}
use Rattle.fn_grammar.specs.Grammar.{IsTextOf}
use Rattle.fn_grammar.specs.Print.{printed}
use Rattle.ot_mend.specs.declared.edit.Edit.{Edit}
use Rattle.ot_mend.specs.Members.{function_after}
use Rattle.mend_texts.specs.Made.{AreMade}
use Rattle.mend_texts.specs.Texts.{mended_text}
use Rattle.fewest_edits.specs.declared.mending.Mending.{Mending}
use Rattle.ot_replies.specs.declared.reply.Reply.TheVariants.{Mended}
use Rattle.ot_commands.specs.Mend.{IsDecidedSo, TellsMending}
use Rattle.ot_commands.proofs.Mending.{found_are_made}
use Rattle.ot_commands.proofs.mend.told.Goals as goal

pub text_of-requires : goal.text_of-requires
text_of-requires c =
    let f : Function = function_of c.args.rules.now in
    subst (λ (l : List Edit). AreMade f l) (sym c.deref.ensures.value)
    (found_are_made c.members_are_made.ensures (IsDecidedSo c.args.level) f c.args.most c.args.budget c.args.mending
    c.in-Found.rules c.in-Found.edits c.in-Found.is c.requires).0

pub returns-in-Found : goal.returns-in-Found
returns-in-Found c =
    let f : Function = function_of c.args.rules.now in
    let made = found_are_made c.members_are_made.ensures (IsDecidedSo c.args.level) f c.args.most c.args.budget
    c.args.mending c.in-Found.rules c.in-Found.edits c.in-Found.is c.requires in
    let leads : function_after c.deref.result.now f ≡ function_of c.in-Found.rules =
    ap (λ (l : List Edit). function_after l f) c.deref.ensures.value ∙ made.1 in
    subst (λ (m : Mending). TellsMending f c.args.most m (Mended c.in_ok-text-in-Found.text)) (sym c.in-Found.is) (
      made.1,
      subst (λ (g : Function). IsTextOf (printed g) g) leads c.in_ok-text-in-Found.ensures.of_function,
      ap (λ (t : List ℕ). Mended t)
          (c.in_ok-text-in-Found.ensures.text ∙ ap (λ (l : List Edit). mended_text f l) c.deref.ensures.value),
    )
