-- The laws of the five ways out of `hashed` with an error. Assumes nothing.
use Rattle.blake2b.specs.Digest.{no-digest, long-digest, long-key, long-head, short-buffer}

pub ruleset refusals = (no-digest, long-digest, long-key, long-head, short-buffer)
