-- Transactions that don't say what they reply.
use Rattle.kc_model.specs.declared.reply.Reply.TheVariants as reply
use Rattle.kc_xt.specs.Meaning.{Outcome, replied, retried, too_large, Meaning}

-- it says no more than that it is done
abbrev pub silenced : Outcome → Outcome
silenced (replied a) = replied reply.Unit
silenced retried = retried
silenced too_large = too_large

abbrev pub silent : Meaning → Meaning
silent m n v ks = record { outcome = silenced (m n v ks).outcome; touches = (m n v ks).touches }
