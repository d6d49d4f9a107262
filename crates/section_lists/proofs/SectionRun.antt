-- The lines around a tree, and what they lead to.
use Rattle.std.proofs.Common.{◌≡◌, ℕ, List, [], ◌∷◌, Ok, arith, refl, sym, ap, subst, ◌∙◌}
use Rattle.std.proofs.lemmas.List.{append-nil}
use Rattle.fn_rules.specs.declared.function.ObName.{ObName}
use Rattle.ask_core.specs.Plans.{Plan}
use Rattle.cert_text.specs.declared.item.Item.{Item}
use Rattle.cert_text.specs.declared.item.Part.{Part}
use Rattle.cert_text.specs.declared.item.Part.TheVariants as part
use Rattle.cert_text.specs.Spelling.{end_text}
use Rattle.cert_text.specs.Places.{PartPlace, Start, Line, Tree, Finish, Stands, part_text, place_after}
use Rattle.refusals.specs.declared.refusal.JudgeError.{JudgeError}
use Rattle.ot_sections.specs.Parts.{IsJudged, branches_behind}
use Rattle.ot_outside.specs.declared.feed.Feed.{Ghosts}
use Rattle.ot_sections.specs.Feeding.{Fed, Yields}
use Rattle.ot_sections.specs.Stands.{Came, IsJudgedBehind, IsMisspeltBehind, IsOver, IsRefusedAnyway, IsRefusedBehind}
use Rattle.ot_sections.specs.Stands.{StandLeads, LeadsAnyway, opened, reader_offset_of, reader_place_of, stand}
use Rattle.ot_sections.specs.Stands.{tree_with}
use Rattle.ot_sections.specs.Sections.{IsLineWith}
use Rattle.ot_sections.proofs.Fitting.{last_line_fits}
use Rattle.ot_sections.proofs.Leading.{leads_on, misspelt_refused, part_leads, refused_through}

-- in a tree, of an obligation behind which these are still to come
abbrev pub IsTreeWith : List ObName → ℕ → PartPlace → Type 0
IsTreeWith obs count (Tree came names branches) = (names ≡ obs) × (branches ≡ count)
IsTreeWith obs count (Start tp1 tp2) = ⊥
IsTreeWith obs count (Line came names) = ⊥
IsTreeWith obs count Finish = ⊥

pub closed_tree : (obs : List ObName) (count : ℕ) (place : PartPlace) → IsTreeWith obs count place
    → IsTreeWith obs 0 (tree_with 0 place)
closed_tree obs count (Tree came names branches) tree = (tree.0, refl)
closed_tree obs count (Start tp1 tp2) tree = tree
closed_tree obs count (Line came names) tree = tree
closed_tree obs count Finish tree = tree

-- the line of an obligation opens its tree
line_opens_tree :
    (ob : ObName) (others : List ObName) (place : PartPlace) (p : Part)
    → IsLineWith (ob ∷ others) place → Stands place p
    → IsTreeWith others 1 (place_after place p)
line_opens_tree ob others (Line came (name ∷ names)) (part.Ob n) line stands =
    let rest : names ≡ others = cc in (rest, refl)
line_opens_tree ob others (Line came (name ∷ names)) p line stands = absurd stands
line_opens_tree ob others (Line came []) p line stands = absurd (cc)
line_opens_tree ob others (Start tp1 tp2) p line stands = absurd line
line_opens_tree ob others (Tree came names branches) p line stands = absurd line
line_opens_tree ob others Finish p line stands = absurd line

-- the newline behind a tree closes it
newline_closes :
    (others : List ObName) (place : PartPlace) (p : Part) → IsTreeWith others 0 place → Stands place p
    → IsLineWith others (place_after place p)
newline_closes others (Tree came names branches) (part.Tok t) tree stands = absurd (omega (arith, tree.1, stands.0))
newline_closes others (Tree came names branches) part.LineEnd tree stands = tree.0
newline_closes others (Tree came names branches) p tree stands = absurd stands
newline_closes others (Start tp1 tp2) p tree stands = absurd tree
newline_closes others (Line came names) p tree stands = absurd tree
newline_closes others Finish p tree stands = absurd tree

module _ {W : Type 0} (plan : ObName → Plan W) where
  line_branches :
      (ob : ObName) (others : List ObName) (place : PartPlace) (offset : ℕ) (p : Part)
      → IsLineWith (ob ∷ others) place → Stands place p
      → branches_behind plan (record { place = place; offset = offset; branches = [] }) p ≡ Ok (opened (plan ob))
  line_branches ob others (Line came (name ∷ names)) offset (part.Ob n) line stands =
      let first : name ≡ ob = cc in ap (λ (x : ObName). Ok (opened (plan x))) first
  line_branches ob others (Line came (name ∷ names)) offset p line stands = absurd stands
  line_branches ob others (Line came []) offset p line stands = absurd (cc)
  line_branches ob others (Start tp1 tp2) offset p line stands = absurd line
  line_branches ob others (Tree came names branches) offset p line stands = absurd line
  line_branches ob others Finish offset p line stands = absurd line

  newline_branches :
      (others : List ObName) (place : PartPlace) (offset : ℕ) (p : Part) → IsTreeWith others 0 place → Stands place p
      → branches_behind plan (record { place = place; offset = offset; branches = [] }) p ≡ Ok []
  newline_branches others (Tree came names branches) offset (part.Tok t) tree stands =
      absurd (omega (arith, tree.1, stands.0))
  newline_branches others (Tree came names branches) offset part.LineEnd tree stands = refl
  newline_branches others (Tree came names branches) offset p tree stands = absurd stands
  newline_branches others (Start tp1 tp2) offset p tree stands = absurd tree
  newline_branches others (Line came names) offset p tree stands = absurd tree
  newline_branches others Finish offset p tree stands = absurd tree

  -- an obligation's line comes
  pub record LineCame {F : Type 0} (feeds : Ghosts F) (ob : ObName) (others : List ObName) (was first : Fed F)
      (line : Item) : Type 0 where
    pub at : IsLineWith (ob ∷ others) (reader_place_of was.reader)
    pub came : Came feeds was first line

  module _ {F : Type 0} (feeds : Ghosts F) (was first : Fed F) (line : Item) (ob : ObName) (others : List ObName)
      (begun : LineCame feeds ob others was first line) where
    -- behind the line
    pub tree_begins : IsTreeWith others 1 (reader_place_of first.reader)
    tree_begins =
        subst (λ (p : PartPlace). IsTreeWith others 1 p) (sym (ap reader_place_of begun.came.part.behind))
        (line_opens_tree ob others (reader_place_of was.reader) line.part begun.at begun.came.part.stands)

    pub line_leads : StandLeads feeds plan (stand was []) (stand first (opened (plan ob)))
    line_leads =
        part_leads feeds plan was first line [] (opened (plan ob)) begun.came
        (line_branches ob others (reader_place_of was.reader) (reader_offset_of was.reader) line.part
        begun.at begun.came.part.stands)

    pub tree_refused :
        (now : F) (e : JudgeError) → IsRefusedAnyway feeds (stand first (opened (plan ob))) now e
        → IsRefusedBehind feeds plan (stand was []) now e
    tree_refused now e refused =
        refused_through feeds plan (stand was []) (stand first (opened (plan ob))) now e line_leads (refused plan)

    module _ (second : Fed F) (judged : LeadsAnyway feeds (stand first (opened (plan ob))) (stand second []))
        (closed : reader_place_of second.reader ≡ tree_with 0 (reader_place_of first.reader)) where
      pub tree_ends : IsTreeWith others 0 (reader_place_of second.reader)
      tree_ends =
          subst (λ (p : PartPlace). IsTreeWith others 0 p) (sym closed)
          (closed_tree others 1 (reader_place_of first.reader) tree_begins)

      pub tree_leads : StandLeads feeds plan (stand was []) (stand second [])
      tree_leads =
          leads_on feeds plan (stand was []) (stand first (opened (plan ob))) (stand second []) line_leads (judged plan)

      pub newline_refused : (now : F) (e : JudgeError) → IsMisspeltBehind feeds second now e
          → IsRefusedBehind feeds plan (stand was []) now e
      newline_refused now e misspelt =
          refused_through feeds plan (stand was []) (stand second []) now e tree_leads
          (misspelt_refused feeds plan second [] now e misspelt)

      module _ (newline : Item) (now : Fed F) (ended : Came feeds second now newline) where
        pub section_behind : IsLineWith others (reader_place_of now.reader)
        section_behind =
            subst (λ (p : PartPlace). IsLineWith others p) (sym (ap reader_place_of ended.part.behind))
            (newline_closes others (reader_place_of second.reader) newline.part tree_ends ended.part.stands)

        pub section_leads : StandLeads feeds plan (stand was []) (stand now [])
        section_leads =
            leads_on feeds plan (stand was []) (stand second []) (stand now []) tree_leads
            (part_leads feeds plan second now newline [] [] ended
            (newline_branches others (reader_place_of second.reader) (reader_offset_of second.reader) newline.part
            tree_ends ended.part.stands))

-- the text of the last line
end_is : (place : PartPlace) (p : Part) → IsLineWith [] place → Stands place p → part_text place p ≡ end_text
end_is (Line came []) part.End line stands = refl
end_is (Line came []) p line stands = absurd stands
end_is (Line came (name ∷ names)) p line stands = absurd (cc)
end_is (Start tp1 tp2) p line stands = absurd line
end_is (Tree came names branches) p line stands = absurd line
end_is Finish p line stands = absurd line

-- the last line fits
last_judged :
    {W : Type 0} (plan : ObName → Plan W) (place : PartPlace) (offset : ℕ) → IsLineWith [] place
    → IsJudged plan (Ok tt) (record { place = place; offset = offset; branches = [] }) end_text
last_judged plan (Line came names) offset line =
    subst (λ (n : List ObName). IsJudged plan (Ok tt) (record { place = Line came n; offset = offset; branches = [] })
    end_text) (sym line) (last_line_fits plan came offset)
last_judged plan (Start tp1 tp2) offset line = absurd line
last_judged plan (Tree came names branches) offset line = absurd line
last_judged plan Finish offset line = absurd line

end_branches :
    {W : Type 0} (plan : ObName → Plan W) (place : PartPlace) (offset : ℕ) (p : Part)
    → IsLineWith [] place → Stands place p
    → branches_behind plan (record { place = place; offset = offset; branches = [] }) p ≡ Ok []
end_branches plan (Line came []) offset part.End line stands = refl
end_branches plan (Line came []) offset p line stands = absurd stands
end_branches plan (Line came (name ∷ names)) offset p line stands = absurd (cc)
end_branches plan (Start tp1 tp2) offset p line stands = absurd line
end_branches plan (Tree came names branches) offset p line stands = absurd line
end_branches plan Finish offset p line stands = absurd line

-- the last line, behind which nothing may stand
module _ {F W : Type 0} (feeds : Ghosts F) (plan : ObName → Plan W) (was now : Fed F) (item : Item)
    (at : IsLineWith [] (reader_place_of was.reader)) (came : Came feeds was now item) where
  pub end_judged : (last : F) → IsOver feeds now last → IsJudgedBehind feeds plan (stand was []) last (Ok tt)
  end_judged last over all have = (
    end_text,
    subst (λ (l : List ℕ). Yields feeds was.feed all l)
        (append-nil (part_text (reader_place_of was.reader) item.part)
        ∙ end_is (reader_place_of was.reader) item.part at came.part.stands) (came.bytes all [] (over all have)),
    last_judged plan (reader_place_of was.reader) (reader_offset_of was.reader) at,
  )

  pub trailing_refused : (last : F) (e : JudgeError) → IsMisspeltBehind feeds now last e
      → IsRefusedBehind feeds plan (stand was []) last e
  trailing_refused last e misspelt =
      refused_through feeds plan (stand was []) (stand now []) last e
      (part_leads feeds plan was now item [] [] came
      (end_branches plan (reader_place_of was.reader) (reader_offset_of was.reader) item.part at came.part.stands))
      (misspelt_refused feeds plan now [] last e misspelt)
