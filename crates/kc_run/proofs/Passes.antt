-- The commits of a caller of the lock-free store, and its callers as they open.
use Rattle.std.proofs.Common.{◌≡◌, ℕ, zero, suc, ◌+◌, ◌<◌, ◌≤◌, replicate, true, false, List, [], ◌∷◌, ◌++◌, length, map, get_or, refl, sym, ap, ◌∙◌, subst, arith}
use Rattle.std.specs.Prelude.{All}
use Rattle.std.specs.Global.{Vec}
use Rattle.std.proofs.lemmas.List.{get_or-replicate}
use Rattle.std.proofs.lemmas.List.Elements.{All-head, All-tail, All-weaker}
use Rattle.kc_await.specs.Adds.{AddsLooksAndOne, IsLookOf, IsToldAtLast}
use Rattle.kc_await.specs.Waiting.{CommitsAtLast}
use Rattle.kc_model.specs.declared.footprint.Footprint.{Footprint}
use Rattle.kc_model.specs.declared.reply.Answer.{Answer}
use Rattle.kc_model.specs.declared.reply.Answer.TheVariants as answer
use Rattle.kc_run.proofs.Pasts.{values_are}
use Rattle.kc_run.specs.Jobs.{AllMayRun}
use Rattle.kc_run.specs.Kcas.{AllKcDealt, BelongsTo, CommitsSince, OpenedForCallers, OpensAtZero, left_in, more, none}
use Rattle.kc_script_bundle.specs.declared.bundle.TheConstants.{MOST_COMMANDS}
use Rattle.kc_script_bundle.specs.declared.operation.Command.{Command}
use Rattle.kc_script_runs.specs.Looks.{GivesBehindLooks, IsWaitingTry}
use Rattle.kc_store.specs.Views.{CallerView, StoreView, caller_view, opened_caller, opened_callers, store_view}
use Rattle.kc_store.specs.declared.verdict.Answered.{Answered}
use Rattle.kc_table_moves.specs.Views.{OpensAt}
use Rattle.kc_xt.specs.Meaning.{Meaning}

-- ---- a commit

pub gives_behind : (m : Meaning) (f : Footprint) (c d : CallerView) → AddsLooksAndOne m c f d → GivesBehindLooks c.number m c.own f d.own
gives_behind m f c d b = record {
  looks = b.looks;
  number = b.number;
  added = b.own;
  each = All-weaker (IsLookOf c.number m) (IsWaitingTry c.number m) (λ e l. record { own = l.own; puts_nothing = l.puts_nothing; waits = l.waits }) b.looks b.each;
  rising = b.rising;
}

-- another caller of the same store, behind one commit more
pub belongs_more : (m : Meaning) (a : Answered) (f : Footprint) (z : StoreView) (c d : CallerView) → BelongsTo z c → CommitsAtLast m a f c.seat d.seat → d.of ≡ c.of → d.number ≡ c.number → d ≡ caller_view d.worn d.seat → BelongsTo z d
belongs_more m a f z c d b commits of number shown = record {
  of = of ∙ b.of;
  shown = shown;
  only = subst (λ s. CommitsSince s d.seat) (λ i. (opened_caller (sym of i) (sym number i)).seat) (more c.seat d.seat m a f b.only commits);
}

-- ---- openings

deals : (store : StoreView) (k : ℕ) (threads : List (Vec Command)) → store ≡ store_view store.table → All (λ (v : Vec Command). length v.items ≤ MOST_COMMANDS) threads → AllMayRun BelongsTo (λ (c : CallerView). c.number) left_in (λ (c : CallerView). c.own) store k threads (opened_callers store k (length threads))
deals store k [] shown few = tt
deals store k (v ∷ vs) shown few =
    let here = All-head (λ (w : Vec Command). length w.items ≤ MOST_COMMANDS) v vs few in
    let is : opened_caller store k ≡ caller_view false (opened_caller store k).seat = ap (λ (y : StoreView). record { of = y; number = k; known = []; own = []; worn = false; seat = (opened_caller store k).seat }) shown in
    (record { belongs_to = record { of = refl; shown = is; only = none }; number_is = refl; share = omega (arith, here); fresh = refl }, deals store (suc k) vs shown (All-tail (λ (w : Vec Command). length w.items ≤ MOST_COMMANDS) v vs few))

pub all_dealt : (store : StoreView) (threads : List (Vec Command)) (callers : List CallerView) (n : ℕ) → store ≡ store_view store.table → n ≡ length threads → callers ≡ opened_callers store 0 n → All (λ (v : Vec Command). length v.items ≤ MOST_COMMANDS) threads → AllKcDealt store threads callers
all_dealt store threads callers n shown count dealt few = subst (AllKcDealt store threads) (sym (dealt ∙ ap (opened_callers store 0) count)) (deals store 0 threads shown few)

-- a store is what its first caller shows
pub first_shows : (z : StoreView) (n : ℕ) (callers : List CallerView) (c d : CallerView) → callers ≡ opened_callers z 0 n → 0 < n → c ≡ get_or callers 0 d → c ≡ caller_view c.worn c.seat → z ≡ store_view z.table
first_shows z zero callers c d dealt lt at shown = absurd (omega (arith, lt))
first_shows z (suc n) callers c d dealt lt at shown =
    let first : c ≡ opened_caller z 0 = at ∙ ap (λ cs. get_or cs 0 d) dealt in
    sym (ap (λ (b : CallerView). b.of) first) ∙ ap (λ (b : CallerView). b.of) shown ∙ ap (λ (b : CallerView). store_view b.seat.of) first

pub opens : (values : List ℕ) (z : StoreView) (callers : List CallerView) (n : ℕ) → OpensAt values (replicate (length values) 0) n 0 z.table → z ≡ store_view z.table → callers ≡ opened_callers z 0 n → OpenedForCallers values n z callers
opens values z callers n o shown dealt = record { opening = values_are z.table.origin values o.locations (λ l lt. (o.cells l lt).1); callers_are = ap (λ (y : StoreView). y.callers) shown ∙ o.seats; shown = shown; dealt = dealt }

pub opens_at_zero : (values : List ℕ) (n g : ℕ) (z : StoreView) → OpensAt values (replicate (length values) 0) n g z.table → z ≡ store_view z.table → OpensAtZero z
opens_at_zero values n g z o shown = record {
  shown = shown;
  zeros = λ l lt.
      let within : l < length values = subst (λ m. l < m) o.locations lt in
      (o.cells l within).0 ∙ get_or-replicate (length values) l 0 0 within;
}

pub some_callers : (z : StoreView) (k n : ℕ) (callers : List CallerView) → callers ≡ opened_callers z k n → length callers ≡ n
some_callers z k n callers dealt = ap length dealt ∙ go k n
  where
    go : (k n : ℕ) → length (opened_callers z k n) ≡ n
    go k zero = refl
    go k (suc n) = ap suc (go (suc k) n)
