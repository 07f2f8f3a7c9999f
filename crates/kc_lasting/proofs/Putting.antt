-- Entries of a store put what they read.
use Rattle.std.proofs.Common.{◌≡◌, ◌⊎◌, inl, inr, length, ℕ, ◌++◌, List, [], ◌∷◌, Option, None, Some, sym, ap, subst, map}
use Rattle.std.specs.Prelude.{Contains}
use Rattle.std.specs.List.{filter_map}
use Rattle.kc_hang.proofs.kc_machine_history.Decisions.{history_moves}
use Rattle.kc_hang.proofs.kc_machine_history.Insertions.{inserted_contains}
use Rattle.kc_hang.proofs.kc_machine_traces.Joins.{every, made_parts}
use Rattle.kc_hang.specs.kc_machine.Machine.{Opening, run}
use Rattle.kc_hang.specs.kc_machine.Schedules.{IsSchedule}
use Rattle.kc_hang.specs.kc_machine_history.Decisions.{Decision}
use Rattle.kc_hang.specs.kc_machine_traces.Histories.{Placed, footprint_of, inserted, put_of_line}
use Rattle.kc_hang.specs.kc_machine_traces.Swaps.{SwapOf}
use Rattle.kc_hang.specs.kc_machine_traces.Traces.{swap_line, trace}
use Rattle.kc_hang.specs.kc_table_views.Known.{known}
use Rattle.kc_machine_steps.specs.declared.task.Event.{Event}
use Rattle.kc_model.proofs.Stores.{Contains-first, Contains-later}
use Rattle.kc_model.specs.Footprint.{IsRead, PutsWhatItReads}
use Rattle.kc_model.specs.declared.footprint.Line.{Line}
use Rattle.kc_model.specs.declared.footprint.Put.{Put}
use Rattle.kc_model.specs.declared.footprint.Seen.{Seen}
use Rattle.kc_store.proofs.Among.{first_or_later, nothing_in}

-- ---- lines

read_later : (r : Seen) (rs : List Seen) (p : Put) → IsRead rs p → IsRead (r ∷ rs) p
read_later r rs p (q, c, at, version) = (q, Contains-later r rs q c, at, version)

lines_put : (xs : List Line) (p : Put) → Contains (filter_map put_of_line xs) p → IsRead (map (λ (x : Line). x.seen) xs) p
lines_put [] p c = nothing_in p c
lines_put (x ∷ xs) p c = go x.put c (lines_put xs p)
  where
    go : (o : Option ℕ) → Contains (filter_map put_of_line (record { seen = x.seen; put = o } ∷ xs)) p → (Contains (filter_map put_of_line xs) p → IsRead (map (λ (x : Line). x.seen) xs) p) → IsRead (x.seen ∷ map (λ (x : Line). x.seen) xs) p
    go None c ih = read_later x.seen (map (λ (x : Line). x.seen) xs) p (ih c)
    go (Some after) c ih = at (first_or_later (record { loc = x.seen.loc; version = x.seen.version; after = after }) (filter_map put_of_line xs) p c) ih
      where
        at : (record { loc = x.seen.loc; version = x.seen.version; after = after } ≡ p) ⊎ Contains (filter_map put_of_line xs) p → (Contains (filter_map put_of_line xs) p → IsRead (map (λ (x : Line). x.seen) xs) p) → IsRead (x.seen ∷ map (λ (x : Line). x.seen) xs) p
        at (inl e) ih = (x.seen, Contains-first x.seen (map (λ (x : Line). x.seen) xs), ap (λ (q : Put). q.loc.0) e, ap (λ (q : Put). q.version) e)
        at (inr i) ih = read_later x.seen (map (λ (x : Line). x.seen) xs) p (ih i)

lines_say : (x : Placed) (xs : List Line) → x.entry.footprint ≡ footprint_of xs → PutsWhatItReads x.entry.footprint
lines_say x xs e = subst PutsWhatItReads (sym e) (λ p c. lines_put xs p c)

-- ---- every schedule

abbrev AllPut : Opening → List Event → Type 0
AllPut o es = (x : Placed) → Contains (known o es) x → PutsWhatItReads x.entry.footprint

pub all_put : (o : Opening) (es : List Event) → IsSchedule o es → AllPut o es
all_put o = every (λ es. IsSchedule o es → AllPut o es) step (λ w x c. nothing_in x c)
  where
    step : (es : List Event) (e : Event) → (IsSchedule o es → AllPut o es) → IsSchedule o (es ++ e ∷ []) → AllPut o (es ++ e ∷ [])
    step es e f w = history_moves o es e (λ h. (x : Placed) → Contains h x → PutsWhatItReads x.entry.footprint) (f before) entered swaps
      where
        before : IsSchedule o es
        before = (made_parts o es (e ∷ []) w).0

        entered : (x : Placed) → Decision o es e x → (y : Placed) → Contains (inserted x (trace o es).history) y → PutsWhatItReads y.entry.footprint
        entered x d y c = inserted_contains x (trace o es).history y (λ (z : Placed). PutsWhatItReads z.entry.footprint) (lines_say x d.lines d.footprint) (f before) c

        swaps : (x : Placed) → SwapOf (run o es) e (length es) x → (y : Placed) → Contains (inserted x (trace o es).history) y → PutsWhatItReads y.entry.footprint
        swaps x d y c = inserted_contains x (trace o es).history y (λ (z : Placed). PutsWhatItReads z.entry.footprint) (lines_say x (swap_line d.seen d.after ∷ []) (ap (λ (z : Placed). z.entry.footprint) d.is)) (f before) c
