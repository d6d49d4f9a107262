use Rattle.std.proofs.Common.{◌≡◌, Some, Ok}
use Rattle.cert_text.specs.declared.stage.Stage.TheVariants as stage
use Rattle.cert_text.proofs.PieceLemmas.{ends_within, token_ends}
use Rattle.cert_reader.proofs.reader.Reader.feed_token.Goals as goal

pub returns-in_ok-taken-in-None-Tree-Line-clause-gives : goal.returns-in_ok-taken-in-None-Tree-Line-clause-gives
returns-in_ok-taken-in-None-Tree-Line-clause-gives c =
    let at_is : c.self.inside.stage ≡ stage.Tree c.in-None-Tree-Line.level c.in-None-Tree-Line.came
    c.in-None-Tree-Line.branches = cc in
    let token = c.in_ok-taken-in-None-Tree-Line.ensures in
    token_ends c.self.inside.tp1.items c.self.inside.tp2.items c.self.inside.stage
    c.in-None-Tree-Line.level c.in-None-Tree-Line.came
    c.in-None-Tree-Line.branches c.branches_behind.result c.self.inside.offset
    c.in_ok-taken-in-None-Tree-Line.taken c.self.inside.begun _
    c.self.inside.refused c.args.self.now c.whole_token.new.tok c.args.piece.now c.self.view_is
    c.in-None-Tree-Line.is-0 at_is
    c.in-None-Tree-Line.is-2 c.self.invariant.sound c.if-branches-gt0.true
    c.branches_behind.ensures token.0 token.1 token.2

pub returns-in_ok-taken-in-None-Tree-Line-clause-some : goal.returns-in_ok-taken-in-None-Tree-Line-clause-some
returns-in_ok-taken-in-None-Tree-Line-clause-some c =
    (ends_within c.args.self.now _ c.args.piece.now c.in_ok-taken-in-None-Tree-Line.taken (Ok (Some _))
    (returns-in_ok-taken-in-None-Tree-Line-clause-gives c)).1
