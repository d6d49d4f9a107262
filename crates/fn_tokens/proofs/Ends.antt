-- The tokens of a file end with the file's end.
use Rattle.std.proofs.Common.{ℕ, List, [], ◌∷◌, ◌++◌, refl, sym, ap, ◌∙◌, append_assoc}
use Rattle.fn_tokens.specs.declared.token.Token.TheVariants.{FileEnd}
use Rattle.fn_tokens.specs.declared.lexer.Cursor.{Cursor}
use Rattle.fn_tokens.specs.Tokens.{placed_at, line_end_at, cursor_after, tokens_at, tokens_from, tokens_in, first_place}
use Rattle.fn_tokens.specs.Tokens.{EndsFile}

tokens_end : (at : Cursor) (bytes : List ℕ) → EndsFile (tokens_from at bytes)
tokens_end at [] = record { front = line_end_at at; last = placed_at at FileEnd; is = refl; end = refl }
tokens_end at (byte ∷ rest) =
    let others = tokens_end (cursor_after at byte rest) rest in
    record {
      front = tokens_at at byte rest ++ others.front;
      last = others.last;
      is = ap (λ x. tokens_at at byte rest ++ x) others.is
          ∙ sym (append_assoc (tokens_at at byte rest) others.front (others.last ∷ []));
      end = others.end;
    }

pub file_ends : (bytes : List ℕ) → EndsFile (tokens_in bytes)
file_ends bytes = tokens_end first_place bytes
