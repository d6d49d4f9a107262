use Rattle.std.proofs.Common.{◌≡◌, ◌+◌, ◌-◌, length, ◌∙◌, ◌++◌, arith}
use Rattle.open_places.specs.Parts.{without_cycles}
use Rattle.open_places.specs.Places.{literals_at}
use Rattle.open_places.proofs.PlaceLemmas.{cycles_more, cycles_path, cycles_wait, cycles_waiting, literals_known}
use Rattle.open_places.proofs.places.Places.cite.Goals as goal

pub invariant_of-self-2 : goal.invariant_of-self-2
invariant_of-self-2 g c =
    let depth : c.len-depth.result ≡ length c.self.inside.list.items = c.len-depth.ensures ∙ c.self.inside.list.ok.0 in
    let ls = c.as_slice.result.now ++ c.as_slice-2.result.now in
    let waits = rw depth at c.in_ok-wait_for_all.ensures.ok in
    cycles_path c.self.inside.base c.self.inside.list.items ls c.self.inside.waiting.items
    c.wait_for_all.new.waiting.items c.self.invariant waits

pub overflow_sub-cycles : goal.overflow_sub-cycles
overflow_sub-cycles g c =
    let depth : c.len-depth.result ≡ length c.self.inside.list.items = c.len-depth.ensures ∙ c.self.inside.list.ok.0 in
    let ls = c.as_slice.result.now ++ c.as_slice-2.result.now in
    let waits = rw depth at c.in_ok-wait_for_all.ensures.ok in
    let before : c.len-before.result ≡ length c.self.inside.waiting.items = c.len-before.ensures
    ∙ c.self.inside.waiting.ok.0 in
    let now : c.len.result ≡ length c.wait_for_all.new.waiting.items = c.len.ensures
    ∙ c.wait_for_all.new.waiting.ok.0 in
    let more : length c.wait_for_all.new.waiting.items ≡ length ls + length c.self.inside.waiting.items =
    cycles_more (length c.self.inside.list.items) ls c.self.inside.waiting.items
    c.wait_for_all.new.waiting.items waits in
    omega (arith, before, now, more)

-- what waits innermost are the cycles that were just put there
pub forget-requires : goal.forget-requires
forget-requires g c =
    let depth : c.len-depth.result ≡ length c.self.inside.list.items = c.len-depth.ensures ∙ c.self.inside.list.ok.0 in
    let ls = c.as_slice.result.now ++ c.as_slice-2.result.now in
    let waits = rw depth at c.in_ok-wait_for_all.ensures.ok in
    let before : c.len-before.result ≡ length c.self.inside.waiting.items = c.len-before.ensures
    ∙ c.self.inside.waiting.ok.0 in
    let now : c.len.result ≡ length c.wait_for_all.new.waiting.items = c.len.ensures
    ∙ c.wait_for_all.new.waiting.ok.0 in
    let more : length c.wait_for_all.new.waiting.items ≡ length ls + length c.self.inside.waiting.items =
    cycles_more (length c.self.inside.list.items) ls c.self.inside.waiting.items
    c.wait_for_all.new.waiting.items waits in
    let cycles : c.len.result - c.len-before.result ≡ length ls = omega (arith, before, now, more) in
    let waiting =
    cycles_waiting c.self.inside.known.items c.self.inside.current c.self.inside.base c.self.inside.list.items ls
    c.self.inside.waiting.items c.wait_for_all.new.waiting.items c.args.self.now c.self.view_is
    c.requires.opened waits in
    rw (c.in-Err.ensures.err, cycles) waiting.0

-- without the cycles the places are as they were
pub returns-in-Err-clause-err : goal.returns-in-Err-clause-err
returns-in-Err-clause-err g c =
    let depth : c.len-depth.result ≡ length c.self.inside.list.items = c.len-depth.ensures ∙ c.self.inside.list.ok.0 in
    let ls = c.as_slice.result.now ++ c.as_slice-2.result.now in
    let waits = rw depth at c.in_ok-wait_for_all.ensures.ok in
    let before : c.len-before.result ≡ length c.self.inside.waiting.items = c.len-before.ensures
    ∙ c.self.inside.waiting.ok.0 in
    let now : c.len.result ≡ length c.wait_for_all.new.waiting.items = c.len.ensures
    ∙ c.wait_for_all.new.waiting.ok.0 in
    let more : length c.wait_for_all.new.waiting.items ≡ length ls + length c.self.inside.waiting.items =
    cycles_more (length c.self.inside.list.items) ls c.self.inside.waiting.items
    c.wait_for_all.new.waiting.items waits in
    let cycles : c.len.result - c.len-before.result ≡ length ls = omega (arith, before, now, more) in
    let waiting =
    cycles_waiting c.self.inside.known.items c.self.inside.current c.self.inside.base c.self.inside.list.items ls
    c.self.inside.waiting.items c.wait_for_all.new.waiting.items c.args.self.now c.self.view_is
    c.requires.opened waits in
    let forgotten : without_cycles (c.len.result - c.len-before.result) c.close.new.self ≡ c.args.self.now =
    rw (c.in-Err.ensures.err, cycles) waiting.1 in
    c.forget.ensures ∙ forgotten

-- a cycle waits for each literal of the lemma and for each condition
pub returns-in-Ok-clause-ok : goal.returns-in-Ok-clause-ok
returns-in-Ok-clause-ok g c =
    let depth : c.len-depth.result ≡ length c.self.inside.list.items = c.len-depth.ensures ∙ c.self.inside.list.ok.0 in
    let ls = c.as_slice.result.now ++ c.as_slice-2.result.now in
    let waits = rw depth at c.in_ok-wait_for_all.ensures.ok in
    let known = c.self.inside.known.items in
    let literals : c.as_slice.result.now ≡ literals_at c.args.self.now.known c.args.number =
    c.as_slice.ensures
    ∙ literals_known known c.self.inside.current c.self.inside.base c.self.inside.list.items c.self.inside.waiting.items
    c.args.self.now c.args.number c.index.result.now c.self.view_is c.requires.known c.index.ensures in
    let waiting =
    cycles_wait known c.self.inside.current c.self.inside.base c.self.inside.list.items ls c.self.inside.waiting.items
    c.wait_for_all.new.waiting.items c.args.self.now c.self.view_is c.requires.opened waits in
    rw (← literals, ← c.as_slice-2.ensures, ← waiting.1) c.in-Ok.ensures.ok
