-- What a reply's text and a read leave, as one list for the tactics. Assumes nothing.
use Rattle.replies.specs.ReplyLaws.{reply-length, unreadable-length, read-disk, read-session, read_length}

pub ruleset texts = (reply-length, unreadable-length, read-disk, read-session, read_length)
