-- What a limiter keeps: in no window of the history a client is given more permits than it may have.
use Rattle.std.specs.Prelude.{◌≡◌, ◌⊎◌, ℕ, suc, ◌+◌, ◌<◌, ◌≤◌, ◌==◌, ◌&&◌, nat_lt, Bool, cond, List, [], ◌∷◌, ◌++◌, length, get_or}
use Rattle.kc_compose.specs.Leads.{LeadsTo}
use Rattle.kc_keep.specs.Keeping.{HoldsThroughout}
use Rattle.kc_keep.specs.Steps.{LastsThroughout, StepsThroughout}
use Rattle.kc_limiter.specs.declared.limiter.Limiter.{Limiter}
use Rattle.kc_limiter.specs.declared.limiter.TheConstants.{CLIENTS, LAST_WINDOW, PERMITS}
use Rattle.kc_model.specs.Legal.{IsLegal}
use Rattle.kc_model.specs.Store.{Store, after}
use Rattle.kc_model.specs.declared.footprint.Entry.{Entry}
use Rattle.kc_queue.specs.Meaning.{QueueStandsFor, queue_cells_end}
use Rattle.kc_store.specs.Views.{PastView, last}
use Rattle.kc_xt.specs.Meaning.{Meaning, values}
use Rattle.kc_xt.specs.Structure.{WellFormed}

-- its parts lie one behind another, and it has a cell of each kind for each client
pub record IsLimiterLaid (l : Limiter) : Type 0 where
  pub window : l.window.0 < l.seen.base.0
  pub seen : l.seen.base.0 + CLIENTS ≤ l.counts.base.0
  pub counts : l.counts.base.0 + CLIENTS ≤ l.granted.base.0
  pub each_seen : l.seen.cells ≡ CLIENTS
  pub each_count : l.counts.cells ≡ CLIENTS

-- a store of so many locations has the limiter
abbrev pub HasLimiter : Limiter → ℕ → Type 0
HasLimiter l size = IsLimiterLaid l × (queue_cells_end l.granted ≤ size)

-- ---- the values

abbrev pub seen_cell : Limiter → ℕ → ℕ
seen_cell l client = l.seen.base.0 + client

abbrev pub permits_cell : Limiter → ℕ → ℕ
permits_cell l client = l.counts.base.0 + client

-- how many permits a client was given in the window that is
abbrev pub given_now : Limiter → (ℕ → ℕ) → ℕ → ℕ
given_now l m client = cond (m (seen_cell l client) == m l.window.0) (m (permits_cell l client)) 0

-- the line is one, no client's count is above what it may have, and the window has a number
pub record HasCounts (l : Limiter) (m : ℕ → ℕ) : Type 0 where
  pub line : WellFormed (QueueStandsFor l.granted) m
  pub counts : (client : ℕ) → client < CLIENTS → m (permits_cell l client) ≤ PERMITS
  pub window : m l.window.0 ≤ LAST_WINDOW

-- what a step makes of the line: nobody comes into it without one permit more given, in this window
pub data LineGoes (l : Limiter) (m w : ℕ → ℕ) : List ℕ → List ℕ → Type 0 where
  stays : (xs : List ℕ) → LineGoes l m w xs xs
  leaves : (x : ℕ) (xs : List ℕ) → LineGoes l m w (x ∷ xs) xs
  comes : (xs : List ℕ) (client : ℕ) → client < CLIENTS → w l.window.0 ≡ m l.window.0 → given_now l w client ≡ suc (given_now l m client) → LineGoes l m w xs (xs ++ client ∷ [])

-- what a step makes of the limiter: the window stays or is the next one; within it each client is given one permit more, or none
pub record CountsGo (l : Limiter) (m w : ℕ → ℕ) : Type 0 where
  pub turned : (w l.window.0 ≡ m l.window.0) ⊎ (w l.window.0 ≡ suc (m l.window.0))
  pub given : w l.window.0 ≡ m l.window.0 → (client : ℕ) → client < CLIENTS → (given_now l w client ≡ given_now l m client) ⊎ (given_now l w client ≡ suc (given_now l m client))
  pub line : (xs ys : List ℕ) → QueueStandsFor l.granted m xs → QueueStandsFor l.granted w ys → LineGoes l m w xs ys

-- what a thread may commit
abbrev pub GivesSo : Limiter → Meaning → Type 0
GivesSo l p = LeadsTo (HasCounts l) (λ m a w. CountsGo l m w) p

-- ---- the history that is left

-- this step gives a client one in the window of this number
abbrev pub gives_in : Limiter → ℕ → ℕ → (ℕ → ℕ) → (ℕ → ℕ) → Bool
gives_in l window client m w = m l.window.0 == window && w l.window.0 == window && nat_lt (given_now l m client) (given_now l w client)

-- how many permits these entries gave a client in the window of this number, from this store on
abbrev pub given_in : Limiter → ℕ → ℕ → Store → List Entry → ℕ
given_in l window client s [] = 0
given_in l window client s (e ∷ es) = let t : Store = after e.footprint s in cond (gives_in l window client (values s) (values t)) 1 0 + given_in l window client t es

-- From these values on, no count is ever above what a client may have; who comes into the line is given a permit; the window's number only rises; and in the window of each number no client is given more permits than it may have.
pub record IsLimited (l : Limiter) (opened : List ℕ) (p : PastView) : Type 0 where
  pub opening : Store
  pub opens : (at : ℕ) → at < length opened → (opening at).value ≡ get_or opened at 0
  pub legal : IsLegal opening p.history (last p)
  pub counts : HoldsThroughout (HasCounts l) opening p.history
  pub goes : StepsThroughout (CountsGo l) opening p.history
  pub rises : LastsThroughout (λ m w. m l.window.0 ≤ w l.window.0) opening p.history
  pub windows : (window client : ℕ) → client < CLIENTS → given_in l window client opening p.history ≤ PERMITS
