-- The lines of sessions. Texts are bytes; all but those of documents are ASCII.
use Rattle.std.specs.Prelude.{ℕ, ◌+◌, List, [], ◌∷◌, ◌++◌, length, Option, Some, None, codes}
use Rattle.std.specs.Fmt.{decimal}
use Rattle.ot_replies.specs.declared.reply.EventFault.{EventFault}
use Rattle.ot_replies.specs.declared.reply.EventFault.TheVariants as why
use Rattle.ot_session.specs.declared.ending.SiteEnd.{SiteEnd}
use Rattle.ot_replies.specs.DocumentTexts.{document_text}

abbrev pub event_fault_word : EventFault → List ℕ
event_fault_word why.Site = codes "site"
event_fault_word why.Owner = codes "owner"
event_fault_word why.Kind = codes "kind"
event_fault_word why.Enabled = codes "enabled"
event_fault_word why.Number = codes "number"

abbrev pub event_fault_text : ℕ → EventFault → List ℕ
event_fault_text i fault = codes "case event " ++ decimal i ++ codes " " ++ event_fault_word fault ++ 10 ∷ []

abbrev pub stuck_text : ℕ → List ℕ
stuck_text i = codes "stuck event " ++ decimal i ++ 10 ∷ []

-- how many operations a site has integrated, and its document
abbrev pub site_line : ℕ → SiteEnd → List ℕ
site_line s end = codes "site " ++ decimal s ++ codes " " ++ decimal (length end.seen) ++ codes " "
    ++ document_text end.doc ++ 10 ∷ []

-- a line for each site, of which the first has this number
abbrev pub site_lines : ℕ → List SiteEnd → List ℕ
site_lines s [] = []
site_lines s (end ∷ ends) = site_line s end ++ site_lines (s + 1) ends

-- whether two sites differ
abbrev pub last_line : Option (ℕ × ℕ) → List ℕ
last_line None = codes "same" ++ 10 ∷ []
last_line (Some pair) = codes "differ " ++ decimal pair.0 ++ codes " " ++ decimal pair.1 ++ 10 ∷ []

abbrev pub sites_text : List SiteEnd → Option (ℕ × ℕ) → List ℕ
sites_text ends differ = site_lines 1 ends ++ last_line differ
