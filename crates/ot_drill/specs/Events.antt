-- The events of a generated workload.
use Rattle.std.specs.Prelude.{ℕ, pos, ◌-◌, ◌*◌, ◌%◌, not, nat_eq, if◌then◌else◌, List, [], ◌∷◌, ◌++◌, map, filter}
use Rattle.std.specs.Prelude.{reverse}
use Rattle.std.specs.List.{flat_map, range_with_len}
use Rattle.ot_model.specs.declared.op.Op.{Op}
use Rattle.ot_model.specs.declared.op.Op.TheVariants as ops
use Rattle.case_json.specs.declared.script.Event.{Event}
use Rattle.case_json.specs.declared.script.Event.TheVariants.{Make, Take}

-- what a site makes in a round: in every third round a deletion, otherwise an insertion, at the front of the document
abbrev pub round_operation : ℕ → ℕ → Op
round_operation round site = if nat_eq (round % 3) 2 then ops.Del (pos 0) site else ops.Ins (pos 0) 97 site

-- the three sites make their operations of a round
abbrev pub makes_in : ℕ → List Event
makes_in round = map (λ site. Make site (round_operation round site)) (1 ∷ 2 ∷ 3 ∷ [])

-- the operations of the other sites, of so many rounds, in the order in which they were made
abbrev pub others_of : ℕ → ℕ → List ℕ
others_of rounds site = filter (λ o. not (nat_eq (o % 3) (site - 1))) (range_with_len 0 (3 * rounds))

-- a site takes operations
abbrev pub takes_of : ℕ → List ℕ → List Event
takes_of site numbers = map (Take site) numbers

-- in so many rounds each of three sites makes an operation; then site 1 takes those of the others in the order in which
-- they were made, site 2 takes them in the opposite order, and site 3 takes them twice in the order in which they were
-- made
abbrev pub drill_events : ℕ → List Event
drill_events rounds =
    flat_map makes_in (range_with_len 0 rounds)
    ++ takes_of 1 (others_of rounds 1)
    ++ takes_of 2 (reverse (others_of rounds 2))
    ++ takes_of 3 (others_of rounds 3)
    ++ takes_of 3 (others_of rounds 3)
