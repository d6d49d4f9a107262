-- The most bytes of a file, and a file that has more.
use Rattle.std.specs.Prelude.{◌≡◌, ℕ, ◌<◌, List, length, Option}
use Rattle.std.specs.Option.{ForSome}
use Rattle.ot_replies.specs.declared.reply.FileKind.{FileKind}
use Rattle.ot_replies.specs.declared.reply.FileKind.TheVariants as files
use Rattle.ot_replies.specs.declared.reply.Reply.{Reply}
use Rattle.ot_replies.specs.declared.reply.Reply.TheVariants.{TooLong}

-- the most bytes of a file
abbrev pub limit_of : FileKind → ℕ
limit_of files.Function = 1048576
limit_of files.Certificate = 83886080
limit_of files.Proof = 83886080
limit_of files.Case = 16777216

-- the file is longer than its limit, and the reply says so; `told` is what the file holds, where the shelf tells it
abbrev pub IsTooLong : FileKind → Option (List ℕ) → Reply → Type 0
IsTooLong kind told r = ForSome told (λ contents. limit_of kind < length contents) × (r ≡ TooLong kind)
