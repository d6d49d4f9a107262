use Rattle.std.proofs.Common.{rules, ◌≤◌, length, length-take-le, take_all, sym}
use Rattle.fn_hints.proofs.shown.front.Goals as goal

pub slice_bounds-result-end : goal.slice_bounds-result-end
slice_bounds-result-end c =
    let many : 72 ≤ length c.args.line.now = search rules in sym (length-take-le 72 c.args.line.now many)

pub returns-then-line-le-WIDTH : goal.returns-then-line-le-WIDTH
returns-then-line-le-WIDTH c =
    let few : length c.args.line.now ≤ 72 = search rules in sym (take_all 72 c.args.line.now few)
