-- A document in a line. Texts are bytes; all but those of documents are ASCII.
use Rattle.std.specs.Prelude.{ℕ, List, ◌++◌, codes, encode_utf8_all}
use Rattle.ot_model.specs.declared.cell.Cell.{Cell}
use Rattle.case_json.specs.DocText.{doc_text}

-- the text of a document in brackets
abbrev pub document_text : List Cell → List ℕ
document_text d = codes "[" ++ encode_utf8_all (doc_text d) ++ codes "]"
