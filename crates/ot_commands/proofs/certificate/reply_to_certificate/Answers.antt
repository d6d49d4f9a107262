-- Of a file that was opened the feed has read nothing.
use Rattle.ot_commands.proofs.ReadCertificate.{none_read}
use Rattle.ot_commands.proofs.certificate.reply_to_certificate.Goals as goal

pub reply_to_feed-requires-clause-read : goal.reply_to_feed-requires-clause-read
reply_to_feed-requires-clause-read g c =
    none_read c.new-feed.result c.open.new.self c.args.name.now (g.H.Shelf.reads c.args.shelf.now)
    c.new-feed.ensures.shelf c.open.ensures.opened c.new-feed.ensures.gave c.new-feed.ensures.unread
