-- The lines of hubs. Texts are bytes; all but those of documents are ASCII.
use Rattle.std.specs.Prelude.{ℕ, ◌+◌, List, [], ◌∷◌, ◌++◌, Option, Some, None, codes}
use Rattle.std.specs.Fmt.{decimal}
use Rattle.ot_replies.specs.declared.reply.ClientEnd.{ClientEnd}
use Rattle.ot_replies.specs.declared.reply.HubEnd.{HubEnd}
use Rattle.ot_replies.specs.DocumentTexts.{document_text}

-- how many entries the log has, and the server's document
abbrev pub server_line : HubEnd → List ℕ
server_line end = codes "server " ++ decimal end.logged ++ codes " " ++ document_text end.doc ++ 10 ∷ []

-- how many entries a client has received, how many of its operations are pending, and its document
abbrev pub client_line : ℕ → ClientEnd → List ℕ
client_line c end =
    codes "client " ++ decimal c ++ codes " " ++ decimal end.received ++ codes " " ++ decimal end.pending ++ codes " "
    ++ document_text end.doc ++ 10 ∷ []

-- a line for each client, of which the first has this number
abbrev pub client_lines : ℕ → List ClientEnd → List ℕ
client_lines c [] = []
client_lines c (end ∷ ends) = client_line c end ++ client_lines (c + 1) ends

-- whether a client differs from the server
abbrev pub verdict_line : Option ℕ → List ℕ
verdict_line None = codes "same" ++ 10 ∷ []
verdict_line (Some c) = codes "differ " ++ decimal c ++ 10 ∷ []

abbrev pub hub_text : HubEnd → List ℕ
hub_text end = server_line end ++ client_lines 1 end.clients ++ verdict_line end.differ
