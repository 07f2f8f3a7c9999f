-- The keeper, whose entries put the flag alone.
use Rattle.std.proofs.Common.{◌≡◌, ◌<◌, ◌+◌, ◌++◌, ℕ, List, [], ◌∷◌, Option, None, ap, ◌∙◌, arith, subst, sym}
use Rattle.std.proofs.lemmas.List.Elements.{All-nil, All-push, All-same}
use Rattle.std.specs.Option.{option_map}
use Rattle.kc_lasting.proofs.Dealing.{last_opened}
use Rattle.kc_lasting.specs.Eras.{AllSpareFirst, KeeperSpares, SparesFirst}
use Rattle.kc_lasting.specs.Kept.{IsKeeper}
use Rattle.kc_lasting.specs.Opening.{callers_of}
use Rattle.kc_lasting.specs.declared.client.Fresh.{Fresh}
use Rattle.kc_loc.specs.Meaning.{loc_meaning, loc_program}
use Rattle.kc_loc.specs.declared.operation.LocOp.TheVariants as op
use Rattle.kc_model.specs.Footprint.{put_at}
use Rattle.kc_model.specs.Store.{Store}
use Rattle.kc_model.specs.declared.footprint.Entry.{Entry}
use Rattle.kc_model.specs.declared.footprint.Footprint.{Footprint}
use Rattle.kc_model.specs.declared.footprint.Loc.{Loc}
use Rattle.kc_model.specs.declared.footprint.Put.{Put}
use Rattle.kc_model.specs.declared.footprint.TheConstants.{MOST}
use Rattle.kc_model.specs.declared.reply.Answer.TheVariants as answer
use Rattle.kc_model.specs.declared.reply.Reply.{Reply}
use Rattle.kc_store.specs.Knows.{AddsOne, IsTold, OnlyLearns, Remembers, entries_of, entry_of}
use Rattle.kc_store.specs.Views.{CallerView, StoreView, opened_callers}
use Rattle.kc_store.specs.declared.verdict.Verdict.{Verdict}
use Rattle.kc_store.specs.declared.verdict.Verdict.TheVariants as verdict
use Rattle.kc_xt.proofs.Spared.{Spares, spared}
use Rattle.kc_xt.proofs.Tries.{found_somewhere}
use Rattle.kc_xt.specs.Commit.{Answers, run_on}
use Rattle.kc_xt.specs.Meaning.{Meaning, last_written, lesser, limited, values}
use Rattle.kc_xt.specs.Program.{replies}

-- ---- what an add to the flag puts

spares_below : (x : Loc) (l : ℕ) → l < x.0 → Spares l (loc_program (op.FetchAdd x 0) replies)
unfolding loc_program
spares_below x l lt = λ v. ((λ e. absurd (omega (arith, lt, e))), tt)

-- on no store this meaning writes one of the first n locations
abbrev WritesNone : ℕ → Meaning → Type 0
WritesNone n m = (s : Store) (l : ℕ) → l < n → last_written (run_on m s).touches l ≡ None

pub flag_alone : (x : Loc) (k : ℕ) → WritesNone x.0 (limited k (loc_meaning (op.FetchAdd x 0)))
flag_alone x k = λ s l lt. spared l (loc_program (op.FetchAdd x 0) replies) (lesser k MOST) (values s) [] (spares_below x l lt)

-- ---- what a call adds

answers_spare : (n : ℕ) (m : Meaning) (r : Reply) (f : Footprint) → WritesNone n m → Answers m (answer.Reply r) f → SparesFirst n f
answers_spare n m r f none a =
    let (s, finds) = found_somewhere f a.well_made in
    λ l lt. (a.makes s finds).puts l ∙ ap (λ (o : Option ℕ). option_map (λ (v : ℕ). let p : Put = record { loc = record { 0 = l }; version = (s l).version; after = v } in p) o) (none s l lt)

nothing_spares : (n : ℕ) (f : Footprint) → f.puts.items ≡ [] → SparesFirst n f
nothing_spares n f e = λ l lt. ap (λ (ps : List Put). put_at ps l) e

one_spares : (n : ℕ) (c d : CallerView) (f : Footprint) → SparesFirst n f → AddsOne c f d → AllSpareFirst n c.own → AllSpareFirst n d.own
one_spares n c d f spares (j, own) all =
    All-same (λ (e : Entry). SparesFirst n e.footprint) d.own (c.own ++ entry_of c.number j f ∷ []) own (All-push (λ (e : Entry). SparesFirst n e.footprint) c.own (entry_of c.number j f) all spares)

none_spares : (n : ℕ) (c d : CallerView) → d.own ≡ c.own → AllSpareFirst n c.own → AllSpareFirst n d.own
none_spares n c d own all = subst (AllSpareFirst n) (sym own) all

told_spares : (n : ℕ) (m : Meaning) (v : Verdict) (c d : CallerView) (f : Footprint) → WritesNone n m → IsTold m v c f d → AllSpareFirst n c.own → AllSpareFirst n d.own
told_spares n m (verdict.Done r) c d f none (a, one) all = one_spares n c d f (answers_spare n m r f none a) one all
told_spares n m verdict.Later c d f none (a, (nothing, one)) all = one_spares n c d f (nothing_spares n f nothing) one all
told_spares n m verdict.TooLarge c d f none (a, (nothing, one)) all = one_spares n c d f (nothing_spares n f nothing) one all
told_spares n m (verdict.WornLocation loc) c d f none (a, (nothing, one)) all = one_spares n c d f (nothing_spares n f nothing) one all
told_spares n m verdict.WornPool c d f none (worn, own) all = none_spares n c d own all
told_spares n m (verdict.Lost loc version) c d f none (over, own) all = none_spares n c d own all
told_spares n m (verdict.Busy steps) c d f none (busy, own) all = none_spares n c d own all

-- ---- the keeper goes on

pub keeper_told : (k locations : ℕ) (x : Loc) (v : Verdict) (c d : CallerView) (f : Footprint) → x.0 ≡ locations → c.of.locations ≡ locations + 1 → Remembers c d → IsTold (limited k (loc_meaning (op.FetchAdd x 0))) v c f d → IsKeeper c → IsKeeper d
keeper_told k locations x v c d f at size r told kept = record {
  last = ap (λ (j : ℕ). j + 1) r.number ∙ kept.last ∙ ap (λ (z : StoreView). z.callers) (sym r.of);
  spares = λ n is.
      let here : n + 1 ≡ c.of.locations = is ∙ ap (λ (z : StoreView). z.locations) r.of in
      let same : n ≡ x.0 = omega (arith, here, size, at) in
      told_spares n (limited k (loc_meaning (op.FetchAdd x 0))) v c d f (subst (λ (j : ℕ). WritesNone j (limited k (loc_meaning (op.FetchAdd x 0)))) (sym same) (flag_alone x k)) told (kept.spares n here);
}

pub keeper_learns : (c d : CallerView) → OnlyLearns c d → IsKeeper c → IsKeeper d
keeper_learns c d l kept = record {
  last = ap (λ (j : ℕ). j + 1) l.remembers.number ∙ kept.last ∙ ap (λ (z : StoreView). z.callers) (sym l.remembers.of);
  spares = λ n is. none_spares n c d l.own (kept.spares n (is ∙ ap (λ (z : StoreView). z.locations) l.remembers.of));
}

-- so it is with all that a history has of it
pub keeper_spares : (c : CallerView) (z : StoreView) (history : List Entry) → c.of ≡ z → entries_of c.number history ≡ c.own → IsKeeper c → KeeperSpares z history
keeper_spares c z history of own kept = record {
  spares = λ k n last flag.
      let callers = ap (λ (y : StoreView). y.callers) of in
      let mine = kept.last in
      let same : c.number ≡ k = omega (arith, callers, mine, last) in
      subst (λ (j : ℕ). AllSpareFirst n (entries_of j history)) same (subst (AllSpareFirst n) (sym own) (kept.spares n (flag ∙ sym (ap (λ (y : StoreView). y.locations) of))));
}

-- the last that was opened
pub keeper_opened : (z : StoreView) (xs ys : List Fresh) (x : Fresh) (n : ℕ) → x.client.caller.of ≡ z → z.callers ≡ n → ys ≡ xs ++ x ∷ [] → callers_of ys ≡ opened_callers z 0 n → IsKeeper x.client.caller
keeper_opened z xs ys x n of many items dealt =
    let (number, own) = last_opened z xs x 0 n (sym (ap callers_of items) ∙ dealt) in
    let callers = ap (λ (y : StoreView). y.callers) of in
    record {
      last = omega (arith, number, callers, many);
      spares = λ j is. subst (AllSpareFirst j) (sym own) (All-nil (λ (e : Entry). SparesFirst j e.footprint));
    }
