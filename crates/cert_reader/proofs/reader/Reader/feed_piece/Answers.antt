use Rattle.std.proofs.Common.{Some, Ok, rules, subst}
use Rattle.cert_text.specs.Reading.{ReaderState}
use Rattle.cert_text.specs.Pieces.{GivesOf}
use Rattle.cert_text.proofs.PieceLemmas.{piece_reads, piece_within}
use Rattle.cert_reader.proofs.reader.Reader.feed_piece.Goals as goal

pub returns-in-Some : goal.returns-in-Some
returns-in-Some c =
    let given = c.in-Some.ensures.gives in
    record {
      gives = given;
      within = c.in-Some.ensures.within;
      some = λ any. c.in-Some.ensures.some;
      fed = c.in-Some.ensures.fed;
      reads = piece_reads c.args.self.now c.feed_token.new.self c.args.piece.now c.in-Some.taken (Ok (Some _)) given;
    }

-- where no token is read at once, the bytes are fed one after another
pub returns-in-None : goal.returns-in-None
returns-in-None c =
    let given =
    subst (λ (p : ReaderState). GivesOf p c.args.piece.now c.feed_each.result.0 c.feed_each.result.1
    c.feed_each.new.self) c.in-None.ensures.none c.feed_each.ensures.gives in
    let taken = piece_within c.args.self.now c.feed_each.new.self c.args.piece.now c.feed_each.result.0
    c.feed_each.result.1 given in
    record {
      gives = given;
      within = taken.0;
      some = taken.1;
      fed = search rules;
      reads = piece_reads c.args.self.now c.feed_each.new.self c.args.piece.now c.feed_each.result.0
          c.feed_each.result.1 given;
    }
