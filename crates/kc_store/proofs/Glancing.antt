-- Looks that confirm, and what a view answers by them.
use Rattle.std.proofs.Common.{◌≡◌, ◌≢◌, ◌<◌, ◌⊎◌, ◌||◌, inl, inr, Bool, true, false, ℕ, ◌++◌, List, [], ◌∷◌, Some, None, Option, refl, sym, ap, ◌∙◌, subst, length, All, Contains, get_or, take}
use Rattle.std.proofs.lemmas.List.{take-map}
use Rattle.std.proofs.lemmas.List.Elements.{All-contains, All-contains_itself, All-from_get_or, All-take, Contains-append_left, Contains-append_right, Contains-get_or}
use Rattle.kc_hang.proofs.kc_table_laws.Confirming.{confirmed_later, knew_on, knows_now, look_confirms, stood_from, views_stand}
use Rattle.kc_hang.proofs.kc_table_laws.Keeping.{keeps_same, keeps_then}
use Rattle.kc_hang.specs.kc_machine.Seats.{is_idle}
use Rattle.kc_hang.specs.kc_machine_history.Confirmed.{HasFront}
use Rattle.kc_hang.specs.kc_machine_traces.Histories.{History, IsKnown, Placed, entries, made}
use Rattle.kc_hang.specs.kc_machine_traces.Outcomes.{GainsAsTold}
use Rattle.kc_hang.specs.kc_machine_traces.Traces.{first_store}
use Rattle.kc_hang.specs.kc_table_laws.Confirmed.{SeesConfirmed, StoodForGood}
use Rattle.kc_hang.specs.kc_table_laws.Halts.{may_halt, was_halted}
use Rattle.kc_hang.specs.kc_table_laws.Tasks.{KeepsKnown}
use Rattle.kc_hang.specs.kc_table_moves.Views.{Ran, RanQuietly, SeatView, knows, opening_at_seat}
use Rattle.kc_hang.specs.kc_table_views.Known.{IsMeant}
use Rattle.kc_machine_steps.specs.declared.task.Task.{Task}
use Rattle.kc_machine_steps.specs.declared.task.Task.TheVariants as task
use Rattle.kc_machine_steps.specs.declared.task.Told.{Told}
use Rattle.kc_machine_steps.specs.declared.task.Told.TheVariants as told
use Rattle.kc_model.proofs.Stores.{Contains-first, Contains-later}
use Rattle.kc_model.specs.Footprint.{Reads}
use Rattle.kc_model.specs.Store.{Store}
use Rattle.kc_model.specs.declared.footprint.Footprint.{Footprint}
use Rattle.kc_model.specs.declared.footprint.Loc.{Loc}
use Rattle.kc_model.specs.declared.footprint.Seen.{Seen}
use Rattle.kc_model.specs.declared.reply.Reply.{Reply}
use Rattle.kc_store.proofs.Among.{first_or_later, nothing_in}
use Rattle.kc_store.proofs.Coming.{did_worn}
use Rattle.kc_store.proofs.Doing.{did_gains, did_keeps}
use Rattle.kc_store.proofs.Ending.{free, may_be_halted, runs}
use Rattle.kc_store.proofs.Gaining.{does_meant}
use Rattle.kc_store.proofs.Looking.{advances_same, advances_then}
use Rattle.kc_store.proofs.Remembering.{entries_within, within_on}
use Rattle.kc_hang.proofs.kc_table_laws.Running.{ran_same}
use Rattle.kc_store.proofs.Settling.{looked_keeps, looked_worn, looked_none as looked_none_own, settles_from}
use Rattle.kc_store.specs.Answers.{PutsNothing, Settles, own_entries}
use Rattle.kc_store.specs.Knows.{AddsOne, IsTold, IsWithin, NotesWear, OnlyLearns, Remembers, entry_of}
use Rattle.kc_store.specs.Tries.{Did, Sees}
use Rattle.kc_store.specs.Verdicts.{is_final, is_worn_pool, verdict_of}
use Rattle.kc_store.specs.Viewing.{FrontMakes, Glances, Glimpses, InVain, IsCommittedSo, IsGlimpsed, IsViewed, StandsAtOnce, WouldPut, is_settled, is_worn_went, stands_as, viewed_as}
use Rattle.kc_store.specs.Views.{CallerView, caller_view}
use Rattle.kc_store.specs.Works.{AllLooked, IsFrom, MayRun, Runs}
use Rattle.kc_store.specs.declared.budget.Budget.{Budget}
use Rattle.kc_store.specs.declared.verdict.Answered.{Answered}
use Rattle.kc_store.specs.declared.verdict.Answered.TheVariants as answered
use Rattle.kc_store.specs.declared.viewing.Glimpse.{Glimpse}
use Rattle.kc_store.specs.declared.viewing.TheConstants.{MOST_VIEWS}
use Rattle.kc_store.specs.declared.viewing.Glimpse.TheVariants as glimpse
use Rattle.kc_store.specs.declared.viewing.Viewed.{Viewed}
use Rattle.kc_store.specs.declared.viewing.Viewed.TheVariants as viewed
use Rattle.kc_table.specs.Turns.{LooksAgain, LooksUntil, is_read_below, none as no_look, one as one_look}
use Rattle.kc_xt.specs.Commit.{Came, Looked, PutsWhereDone, tried_of}
use Rattle.kc_xt.specs.Meaning.{Meaning}
use Rattle.kc_xt.specs.declared.attempts.Tried.{Tried}
use Rattle.kc_xt.specs.declared.attempts.Tried.TheVariants as tried
use Rattle.kc_xt.specs.declared.room.Went.{Went}
use Rattle.kc_xt.specs.declared.room.Went.TheVariants as went

pub glances_same : (v : SeatView) → is_idle v.seat.work ≡ true → Glances v v
glances_same v idle = record { advances = advances_same v idle; keeps = keeps_same v; none = refl; stays = λ f. f }

pub glances_then : (u v w : SeatView) → Glances u v → Glances v w → Glances u w
glances_then u v w a b = record {
  advances = advances_then u v w a.advances b.advances;
  keeps = keeps_then u v w a.keeps b.keeps;
  none = b.none ∙ a.none;
  stays = λ f. b.stays (a.stays f);
}

-- a task that was told this: its past is meant
did_meant : (v w : SeatView) (t : Task) → Did v t w → IsMeant (opening_at_seat w) w.past
did_meant v w t (inl d) = does_meant v w t d
did_meant v w t (inr (u, d, e)) = subst (λ (z : SeatView). IsMeant (opening_at_seat z) z.past) (sym e) (does_meant v u t d)

looked_none : (k : ℕ) (l : Loc) (a : Option Told) (x y : History) → GainsAsTold k (task.Look l) a x y → y ≡ x
looked_none k l None x y g = g
looked_none k l (Some (told.Succeeded n)) x y g = absurd g.is
looked_none k l (Some told.Hung) x y g = g
looked_none k l (Some told.Free) x y g = g
looked_none k l (Some (told.Seen r)) x y g = g
looked_none k l (Some (told.Failed j)) x y g = g
looked_none k l (Some (told.Crossed j)) x y g = g
looked_none k l (Some told.Halted) x y g = g
looked_none k l (Some told.Worn) x y g = g
looked_none k l (Some (told.Changed j)) x y g = g

-- a look that ended
module _ (v w : SeatView) (l : Loc) (run : MayRun v (task.Look l) w) (ended : is_idle w.seat.work ≡ true) where
  keeps : KeepsKnown v w
  keeps = did_keeps v w (task.Look l) run.did

  pub one_glance : Glances v w
  one_glance = record {
    advances = record { of = keeps.of; number = keeps.number; idle = ended; blocked = run.stands.blocked; counts = run.stands.counts; no_more = run.stands.no_more };
    keeps = keeps;
    none = looked_none v.number l w.seat.told (own_entries v) (own_entries w) (did_gains v w (task.Look l) run.did ended);
    stays = did_worn v w (task.Look l) run.did;
  }

  -- what was confirmed stays so
  pub still_confirmed : (p : ℕ) (s : Seen) → SeesConfirmed v p s → SeesConfirmed w p s
  still_confirmed p s c = confirmed_later v w keeps p s (did_meant v w (task.Look l) run.did) c

-- a look that was begun in one call
module _ (v w : SeatView) (l : Loc) (idle : is_idle v.seat.work ≡ true) (within : l.0 < v.of.origin.locations) (quiet : RanQuietly v (task.Look l) w) where
  abbrev ran : Ran v (task.Look l) w
  ran = record { steps = quiet.steps.steps; shown = quiet.shown }

  pub looks : Runs v (task.Look l) w
  looks = runs (task.Look l) v w refl idle within ran

  pub looks_straight : MayRun v (task.Look l) w
  looks_straight = record { did = inl looks.does; stands = looks.stands }

  pub looks_calmly : was_halted w.seat ≡ false
  looks_calmly = (free (task.Look l) v w refl idle within ran).1

  pub looks_may_halt : is_idle w.seat.work ≡ false → may_halt w.seat.work ≡ true
  looks_may_halt = may_be_halted (task.Look l) v w refl idle within ran

-- ---- all reads

in_more : (rs : List Seen) (s r : Seen) → Contains (rs ++ s ∷ []) r → Contains rs r ⊎ (s ≡ r)
in_more [] s r c = go (first_or_later s [] r c)
  where
    go : (s ≡ r) ⊎ Contains [] r → Contains [] r ⊎ (s ≡ r)
    go (inl e) = inr e
    go (inr c) = inl c
in_more (x ∷ rs) s r c = go (first_or_later x (rs ++ s ∷ []) r c) (in_more rs s r)
  where
    go : (x ≡ r) ⊎ Contains (rs ++ s ∷ []) r → (Contains (rs ++ s ∷ []) r → Contains rs r ⊎ (s ≡ r)) → Contains (x ∷ rs) r ⊎ (s ≡ r)
    go (inl e) ih = inl (subst (λ z. Contains (x ∷ rs) z) e (Contains-first x rs))
    go (inr c) ih = later (ih c)
      where
        later : Contains rs r ⊎ (s ≡ r) → Contains (x ∷ rs) r ⊎ (s ≡ r)
        later (inl d) = inl (Contains-later x rs r d)
        later (inr e) = inr e

pub in_reads : (rs : List Seen) (i : ℕ) (d : Seen) → i < length rs → Contains rs (get_or rs i d)
in_reads rs i d l = Contains-get_or rs i d l

abbrev pub LieWithin : ℕ → List Seen → Type 0
LieWithin k rs = (r : Seen) → Contains rs r → r.loc.0 < k

pub all_within : (k : ℕ) (rs : List Seen) → LieWithin k rs → All (is_read_below k) rs
all_within k rs h = All-from_get_or (is_read_below k) rs (record { loc = record { 0 = 0 }; version = 0; value = 0 }) (λ i lt. h (get_or rs i (record { loc = record { 0 = 0 }; version = 0; value = 0 })) (in_reads rs i (record { loc = record { 0 = 0 }; version = 0; value = 0 }) lt))

-- looks that found what the reads say
pub row_glances : (v w : SeatView) (rs : List Seen) → is_idle v.seat.work ≡ true → LieWithin v.of.origin.locations rs → LooksAgain v rs w → Glances v w
row_glances v _ _ idle lie no_look = glances_same v idle
row_glances v _ _ idle lie (one_look rs u r w a s) =
    let g = row_glances v u rs idle (λ x c. lie x (Contains-append_left rs (r ∷ []) x c)) a in
    let here = subst (λ z. r.loc.0 < z.origin.locations) (sym g.keeps.of) (lie r (Contains-append_right rs (r ∷ []) r (Contains-first r []))) in
    glances_then v u w g (one_glance u w r.loc (looks_straight u w r.loc g.advances.idle here s.quiet) s.idle)

pub row_confirms : (v w : SeatView) (rs : List Seen) → is_idle v.seat.work ≡ true → LieWithin v.of.origin.locations rs → ((r : Seen) → Contains rs r → IsKnown (first_store (opening_at_seat v)) (knows v) r) → LooksAgain v rs w
    → (x : Seen) → Contains rs x → SeesConfirmed w (length v.past) x
row_confirms v _ _ idle lie known no_look x c = nothing_in x c
row_confirms v _ _ idle lie known (one_look rs u r w a s) x c =
    go (in_more rs r x c) (row_confirms v u rs idle (λ y d. lie y (Contains-append_left rs (r ∷ []) y d)) (λ y d. known y (Contains-append_left rs (r ∷ []) y d)) a x)
  where
    g : Glances v u
    g = row_glances v u rs idle (λ y d. lie y (Contains-append_left rs (r ∷ []) y d)) a

    last : Contains (rs ++ r ∷ []) r
    last = Contains-append_right rs (r ∷ []) r (Contains-first r [])

    here : r.loc.0 < u.of.origin.locations
    here = subst (λ z. r.loc.0 < z.origin.locations) (sym g.keeps.of) (lie r last)

    go : Contains rs x ⊎ (r ≡ x) → (Contains rs x → SeesConfirmed u (length v.past) x) → SeesConfirmed w (length v.past) x
    go (inl d) before = still_confirmed u w r.loc (looks_straight u w r.loc g.advances.idle here s.quiet) s.idle (length v.past) x (before d)
    go (inr e) before = subst (SeesConfirmed w (length v.past)) e (look_confirms u w r.loc r r (length v.past) g.advances.idle here s.once s.told refl refl (knew_on v u g.keeps (length v.past) r (knows_now v r (known r last))))

-- a row that another word ended
module _ (v w : SeatView) (rs : List Seen) (idle : is_idle v.seat.work ≡ true) (lie : LieWithin v.of.origin.locations rs) (a : LooksUntil v rs w) where
  pub until_glances : Glances v a.u
  until_glances = row_glances v a.u (take a.front rs) idle (λ x c. lie x (All-contains (Contains rs) (take a.front rs) x (All-take (Contains rs) a.front rs (All-contains_itself rs)) c)) a.looked

  pub until_within : a.r.loc.0 < a.u.of.origin.locations
  until_within = subst (λ z. a.r.loc.0 < z.origin.locations) (sym until_glances.keeps.of) (lie a.r (subst (Contains rs) (sym a.next) (in_reads rs a.front a.r a.within)))

  pub until_runs : Runs a.u (task.Look a.r.loc) w
  until_runs = looks a.u w a.r.loc until_glances.advances.idle until_within a.quiet

  pub until_of : w.of ≡ v.of
  until_of = (ran_same a.u w (task.Look a.r.loc) (ran a.u w a.r.loc until_glances.advances.idle until_within a.quiet)).0 ∙ until_glances.keeps.of

  -- and whatever ended its last look
  pub until_ended : (x : SeatView) → MayRun a.u (task.Look a.r.loc) x → is_idle x.seat.work ≡ true → Glances v x
  until_ended x run ended = glances_then v a.u x until_glances (one_glance a.u x a.r.loc run ended)

-- ---- the looks of the transaction

module _ (m : Meaning) (t : Tried) (v : SeatView) (f : Footprint) (b : Budget) (w : SeatView) (x : AllLooked m t f v b w) (from : IsFrom v b v) where
  abbrev l : Looked (Sees v) m t v f w
  l = x.looked v from

  pub looked_glances : Glances v w
  looked_glances = record { advances = x.advances; keeps = looked_keeps m t v f w l; none = looked_none_own m t v f w l; stays = looked_worn m t v f w l }

-- ---- what is answered

pub glimpses : (m : Meaning) (t : Tried) (before f : Footprint) (v w : SeatView) → t ≢ tried.Busy → Came m t before f → PutsNothing f → StoodForGood v f w → Glimpses m (stands_as t) v f w
glimpses m (tried.Done r) before f v w n came puts s = (came, puts, s)
glimpses m tried.Later before f v w n came puts s = (came, puts, s)
glimpses m tried.TooLarge before f v w n came puts s = (came, puts, s)
glimpses m (tried.Worn loc) before f v w n came puts s = (inr (loc, came), s)
glimpses m tried.Busy before f v w n came puts s = absurd (n refl)

-- what is found to put something
pub would_put : (m : Meaning) (w : Went) (r : Reply) (before f : Footprint) → w ≢ went.Busy → Came m (tried_of w r) before f → PutsWhereDone (tried_of w r) f → (is_worn_went w ≡ true) ⊎ (f.puts.items ≢ []) → WouldPut m f
would_put m went.Done r before f n came bare (inl e) = absurd (cc)
would_put m went.Done r before f n came bare (inr some) = inl (r, came, some)
would_put m went.Later r before f n came bare (inl e) = absurd (cc)
would_put m went.Later r before f n came bare (inr some) = absurd (some bare)
would_put m went.TooLarge r before f n came bare (inl e) = absurd (cc)
would_put m went.TooLarge r before f n came bare (inr some) = absurd (some bare)
would_put m (went.Worn loc) r before f n came bare e = inr (loc, came)
would_put m went.Busy r before f n came bare e = absurd (n refl)

pub stood : (v u w : SeatView) (f : Footprint) → Glances v u → Glances u w → ((r : Seen) → Reads f r → SeesConfirmed w (length u.past) r) → StoodForGood v f w
stood v u w f a b seen = views_stand v u w f a.keeps b.keeps seen

-- a front of a history, in entries
abbrev pub front_of_entries : (s : Store) (h before : History) (f : Footprint) (x : HasFront s h before f) → FrontMakes s (entries h) (entries before) f
front_of_entries s h before f x = record {
  front = x.front;
  makes = λ r c. ap (λ es. made s es r.loc.0) (take-map (λ (y : Placed). y.entry) x.front h) ∙ x.makes r c;
  no_older = subst (IsWithin (entries before)) (sym (take-map (λ (y : Placed). y.entry) x.front h)) (entries_within x.behind);
}

at_once : (worn : Bool) (f : Footprint) (v w : SeatView) → StoodForGood v f w → StandsAtOnce f (caller_view worn v) (caller_view worn w)
at_once worn f v w s = (front_of_entries (first_store (opening_at_seat w)) (knows w) (knows v) f s.now, s)

pub is_glimpsed : (m : Meaning) (a : Glimpse) (worn : Bool) (v : SeatView) (f : Footprint) (w : SeatView) → Glimpses m a v f w → IsGlimpsed m a (caller_view worn v) f (caller_view worn w)
is_glimpsed m (glimpse.Done r) worn v f w g = (g.0, g.1, at_once worn f v w g.2)
is_glimpsed m glimpse.Later worn v f w g = (g.0, g.1, at_once worn f v w g.2)
is_glimpsed m glimpse.TooLarge worn v f w g = (g.0, g.1, at_once worn f v w g.2)
is_glimpsed m glimpse.Puts worn v f w g = (g.0, at_once worn f v w g.1)
is_glimpsed m glimpse.Changed worn v f w g = g
is_glimpsed m (glimpse.Busy steps) worn v f w g = g

-- ---- one try behind others

at_once_from : (c d e : CallerView) (f : Footprint) → OnlyLearns c d → StandsAtOnce f d e → StandsAtOnce f c e
at_once_from c d e f o (x, s) = (record { front = x.front; makes = x.makes; no_older = within_on o.remembers.known x.no_older }, stood_from c.seat d.seat e.seat f o.remembers.keeps s)

pub glimpsed_from : (m : Meaning) (a : Glimpse) (c d : CallerView) (f : Footprint) (e : CallerView) → is_settled a ≡ true → OnlyLearns c d → IsGlimpsed m a d f e → IsGlimpsed m a c f e
glimpsed_from m (glimpse.Done r) c d f e is o g = (g.0, g.1, at_once_from c d e f o g.2)
glimpsed_from m glimpse.Later c d f e is o g = (g.0, g.1, at_once_from c d e f o g.2)
glimpsed_from m glimpse.TooLarge c d f e is o g = (g.0, g.1, at_once_from c d e f o g.2)
glimpsed_from m glimpse.Puts c d f e is o g = (g.0, at_once_from c d e f o g.1)
glimpsed_from m glimpse.Changed c d f e is o g = absurd (cc)
glimpsed_from m (glimpse.Busy steps) c d f e is o g = absurd (cc)

-- ---- a view that ends

pub is_viewed : (m : Meaning) (a : Glimpse) (x : Viewed) (c : CallerView) (f : Footprint) (d : CallerView) → Some x ≡ viewed_as a → IsGlimpsed m a c f d → OnlyLearns c d → IsViewed m x c f d
is_viewed m a x c f d e g o = go a e g
  where
    at : (y : Viewed) → Some x ≡ Some y → IsViewed m y c f d → IsViewed m x c f d
    at y e v = let q : x ≡ y = cc in subst (λ z. IsViewed m z c f d) (sym q) v

    go : (a : Glimpse) → Some x ≡ viewed_as a → IsGlimpsed m a c f d → IsViewed m x c f d
    go (glimpse.Done r) e g = at (viewed.Done r) e (g, o)
    go glimpse.Later e g = at viewed.Later e (g, o)
    go glimpse.TooLarge e g = at viewed.TooLarge e (g, o)
    go glimpse.Puts e g = at viewed.Puts e (g, o)
    go glimpse.Changed e g = absurd (cc)
    go (glimpse.Busy steps) e g = absurd (cc)

pub fills_so : (a : Glimpse) (x : Viewed) → Some x ≡ viewed_as a → is_settled a ≡ true
fills_so (glimpse.Done r) x e = refl
fills_so glimpse.Later x e = refl
fills_so glimpse.TooLarge x e = refl
fills_so glimpse.Puts x e = refl
fills_so glimpse.Changed x e = absurd (cc)
fills_so (glimpse.Busy steps) x e = absurd (cc)

-- what isn't answered is tried again
pub unsettled : (a : Glimpse) → viewed_as a ≡ None → is_settled a ≡ false
unsettled (glimpse.Done r) e = absurd (cc)
unsettled glimpse.Later e = absurd (cc)
unsettled glimpse.TooLarge e = absurd (cc)
unsettled glimpse.Puts e = absurd (cc)
unsettled glimpse.Changed e = refl
unsettled (glimpse.Busy steps) e = refl

-- ---- a commit behind tries

adds_from : (c d : CallerView) (f : Footprint) (e : CallerView) → OnlyLearns c d → AddsOne d f e → AddsOne c f e
adds_from c d f e o (n, own) = (n, own ∙ (λ i. o.own i ++ entry_of (o.remembers.number i) n f ∷ []))

told_from : (m : Meaning) (a : Answered) (c d : CallerView) (f : Footprint) (e : CallerView) → OnlyLearns c d → IsTold m (verdict_of a) d f e → IsTold m (verdict_of a) c f e
told_from m (answered.Done r) c d f e o t = (t.0, adds_from c d f e o t.1)
told_from m answered.Later c d f e o t = (t.0, (t.1.0, adds_from c d f e o t.1.1))
told_from m answered.TooLarge c d f e o t = (t.0, (t.1.0, adds_from c d f e o t.1.1))
told_from m (answered.WornLocation loc) c d f e o t = (t.0, (t.1.0, adds_from c d f e o t.1.1))
told_from m answered.WornPool c d f e o t = (t.0, t.1 ∙ o.own)

final_verdict : (a : Answered) → is_final (verdict_of a) ≡ true
final_verdict (answered.Done r) = refl
final_verdict answered.Later = refl
final_verdict answered.TooLarge = refl
final_verdict (answered.WornLocation loc) = refl
final_verdict answered.WornPool = refl

pub committed_from : (m : Meaning) (a : Answered) (c d : CallerView) (f : Footprint) (e : CallerView) → OnlyLearns c d → own_entries d.seat ≡ own_entries c.seat → InVain m c MOST_VIEWS d → IsTold m (verdict_of a) d f e → Settles m (verdict_of a) d.seat f e.seat
    → (d.worn ≡ true → a ≡ answered.WornPool) → NotesWear d (verdict_of a) e → Remembers d e → IsCommittedSo m a c f e
committed_from m a c d f e o none vain told settles worn notes remembers = record {
  from = d;
  vain = vain;
  remembers = remembers;
  commits = told;
  told = told_from m a c d f e o told;
  settles = settles_from m (verdict_of a) c.seat d.seat f e.seat (final_verdict a) o.remembers.keeps none settles;
  worn = λ q. worn (o.worn ∙ q);
  notes = notes ∙ ap (λ b. is_worn_pool (verdict_of a) || b) o.worn;
}
