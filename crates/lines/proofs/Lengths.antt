-- How long the parts of a reply are at most, as one list for the tactics. Assumes nothing.
use Rattle.lines.specs.NumberLaws.{length-decimal}
use Rattle.lines.specs.ReplyLaws.{length-tabbed, length-text}

pub ruleset lengths = (length-decimal, length-tabbed, length-text)
