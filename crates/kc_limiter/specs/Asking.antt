-- The acts on a limiter, of parts.
use Rattle.std.specs.Prelude.{ℕ, ◌+◌, ◌<◌, false}
use Rattle.kc_compose.specs.Waits.{enqueues_or_waits}
use Rattle.kc_compose.specs.declared.both.Both.{Both}
use Rattle.kc_compose.specs.declared.fed.Fed.{Fed}
use Rattle.kc_compose.specs.declared.say.Say.{Say}
use Rattle.kc_compose.specs.declared.sort.Sort.TheVariants as sort
use Rattle.kc_compose.specs.declared.wait_on.WaitOn.{WaitOn}
use Rattle.kc_compose.specs.declared.when.When.{When}
use Rattle.kc_limiter.specs.declared.asking.InWindow.{InWindow}
use Rattle.kc_limiter.specs.declared.limiter.Limiter.{Limiter}
use Rattle.kc_limiter.specs.declared.limiter.TheConstants.{LAST_WINDOW, PERMITS}
use Rattle.kc_loc.specs.declared.operation.LocOp.{LocOp}
use Rattle.kc_loc.specs.declared.operation.LocOp.TheVariants as loc
use Rattle.kc_model.specs.declared.footprint.Loc.{Loc}
use Rattle.kc_model.specs.declared.plain_store.TheConstants.{MOST_LOCATIONS}
use Rattle.kc_model.specs.declared.reply.Reply.TheVariants as reply
use Rattle.kc_queue.specs.declared.operation.QueueOp.{QueueOp}

-- counts so, and puts the client into the line
abbrev pub counts_and_enters : InWindow → LocOp → Both LocOp (WaitOn QueueOp)
counts_and_enters i o = record { first = o; second = enqueues_or_waits i.granted i.client }

-- one permit more in the window of the latest one, if fewer than all were given
abbrev pub permits_more : InWindow → When LocOp Say (Both LocOp (WaitOn QueueOp))
permits_more i = record { ask = loc.Get i.count; is = sort.Is PERMITS; then = record { reply = reply.Bool false }; otherwise = counts_and_enters i (loc.Incr i.count) }

-- the first permit in this window
abbrev pub the_first : InWindow → ℕ → Both LocOp (Both LocOp (WaitOn QueueOp))
the_first i window = record { first = loc.Set i.seen window; second = counts_and_enters i (loc.Set i.count 1) }

-- by whether this window is that of the client's latest permit
abbrev pub asks_in : InWindow → ℕ → When LocOp (When LocOp Say (Both LocOp (WaitOn QueueOp))) (Both LocOp (Both LocOp (WaitOn QueueOp)))
asks_in i window = record { ask = loc.Get i.seen; is = sort.Is window; then = permits_more i; otherwise = the_first i window }

abbrev pub are_in_a_store : InWindow → Type 0
are_in_a_store i = (i.seen.0 < MOST_LOCATIONS) × (i.count.0 < MOST_LOCATIONS)

-- a client of a limiter
abbrev pub client_of : Limiter → ℕ → InWindow
client_of l client = record { seen = record { 0 = l.seen.base.0 + client }; count = record { 0 = l.counts.base.0 + client }; granted = l.granted; client = client }

abbrev pub asks_permit : Limiter → ℕ → Fed LocOp InWindow
asks_permit l client = record { first = loc.Get l.window; behind = client_of l client }

abbrev pub asks_until_given : Limiter → ℕ → WaitOn (Fed LocOp InWindow)
asks_until_given l client = record { of = asks_permit l client; at = sort.Refusal }

abbrev pub turns_window : Limiter → When LocOp Say LocOp
turns_window l = record { ask = loc.Get l.window; is = sort.Is LAST_WINDOW; then = record { reply = reply.Bool false }; otherwise = loc.Incr l.window }
