-- Places that come, and the first that doesn't.
use Rattle.std.proofs.Common.{◌≡◌, ℕ, suc, List, [], ◌∷◌, ◌++◌, Some, Contains, refl, sym, ap, ap₂, subst, ◌∙◌, arith}
use Rattle.kc_history.proofs.Choice.{some_is}
use Rattle.kc_history.specs.Order.{one_record_more}
use Rattle.kc_history.specs.Records.{record_at}
use Rattle.kc_history.specs.Text.{reply_line}
use Rattle.kc_history.specs.declared.record.Place.{Place}
use Rattle.kc_history.specs.declared.record.Record.{Record}
use Rattle.kc_model.specs.Store.{Store, after}
use Rattle.kc_model.specs.declared.reply.Answer.{Answer}
use Rattle.kc_script_bundle.specs.declared.operation.Command.{Command}
use Rattle.kc_script_runs.proofs.Determined.{commits_are_one, labelled_at, record_is, replays_are_one}
use Rattle.kc_script_runs.specs.Labels.{label}
use Rattle.kc_script_runs.specs.Run.{IsCommit, Replays, meaning_at}
use Rattle.kc_xt.specs.Commit.{answer_of, run_on}
use Rattle.kc_xt.specs.Meaning.{Meaning, Outcome, retried}
use Rattle.kc_check.specs.Faults.{InTurn, PlacesReplayed, HasToWait, IsOutOfTurn, RepliesElse}

-- ---- a list of places at one of them

-- what the places before this one lead to, and what it does there
pub record At (limit : ℕ) (threads : List (List Command)) (records : List (List Record)) (s : Store) (front : List Place) (p : Place) (back : List Place) (e : Store) : Type 0 where
  pub now : Store
  pub meaning : Meaning
  pub commit : Record
  pub means : meaning_at limit threads p.thread p.index ≡ Some meaning
  pub stands : record_at records p.thread p.index ≡ Some commit
  pub commits : IsCommit meaning now commit
  pub before : Replays limit threads records s front now
  pub rest : Replays limit threads records (after commit.footprint now) back e

pub replays_at : (limit : ℕ) (threads : List (List Command)) (records : List (List Record)) (front : List Place) (p : Place) (back : List Place) (s e : Store) → Replays limit threads records s (front ++ p ∷ back) e → At limit threads records s front p back e
replays_at limit threads records [] p back s e (m, r, means, at, commit, rest) = record { now = s; meaning = m; commit = r; means = means; stands = at; commits = commit; before = refl; rest = rest }
replays_at limit threads records (q ∷ front) p back s e (m, r, means, at, commit, rest) =
    let on = replays_at limit threads records front p back (after r.footprint s) e rest in
    record { now = on.now; meaning = on.meaning; commit = on.commit; means = on.means; stands = on.stands; commits = on.commits; before = (m, r, means, at, commit, on.before); rest = on.rest }

-- one more place behind some
pub replays_more : (limit : ℕ) (threads : List (List Command)) (records : List (List Record)) (front : List Place) (p : Place) (s now : Store) (m : Meaning) (r : Record) → Replays limit threads records s front now → meaning_at limit threads p.thread p.index ≡ Some m → record_at records p.thread p.index ≡ Some r → IsCommit m now r → Replays limit threads records s (front ++ p ∷ []) (after r.footprint now)
replays_more limit threads records [] p s now m r h means at commit = (m, r, means, at, subst (λ (x : Store). IsCommit m x r) h commit, ap (after r.footprint) h)
replays_more limit threads records (q ∷ front) p s now m r (m', r', means', at', commit', rest) means at commit = (m', r', means', at', commit', replays_more limit threads records front p (after r'.footprint s) now m r rest means at commit)

-- records that are the same at the places are replayed alike
pub replays_same : (limit : ℕ) (threads : List (List Command)) (records others : List (List Record)) (ps : List Place) (s e : Store) → ((p : Place) → Contains ps p → record_at records p.thread p.index ≡ record_at others p.thread p.index) → Replays limit threads records s ps e → Replays limit threads others s ps e
replays_same limit threads records others [] s e same h = h
replays_same limit threads records others (p ∷ ps) s e same (m, r, means, at, commit, rest) =
    (m, r, means, sym (same p (0, omega arith, refl)) ∙ at, commit, replays_same limit threads records others ps (after r.footprint s) e (λ q (i, lt, is). same q (suc i, omega arith, is)) rest)

-- so many stand before it, and it is the next
pub record TurnAt (n : ℕ → ℕ) (front : List Place) (p : Place) (back : List Place) (m : ℕ → ℕ) : Type 0 where
  pub stand : ℕ → ℕ
  pub before : InTurn n front stand
  pub next : p.index ≡ stand p.thread
  pub rest : InTurn (one_record_more p.thread stand) back m

pub turns_at : (front : List Place) (p : Place) (back : List Place) (n m : ℕ → ℕ) → InTurn n (front ++ p ∷ back) m → TurnAt n front p back m
turns_at [] p back n m h = record { stand = n; before = refl; next = h.0; rest = h.1 }
turns_at (q ∷ front) p back n m h = let on = turns_at front p back (one_record_more q.thread n) m h.1 in record { stand = on.stand; before = (h.0, on.before); next = on.next; rest = on.rest }

pub turns_more : (front : List Place) (p : Place) (n m : ℕ → ℕ) → InTurn n front m → p.index ≡ m p.thread → InTurn n (front ++ p ∷ []) (one_record_more p.thread m)
turns_more [] p n m h next = (next ∙ ap (λ (k : ℕ → ℕ). k p.thread) h, ap (one_record_more p.thread) h)
turns_more (q ∷ front) p n m h next = (h.0, turns_more front p (one_record_more q.thread n) m h.1 next)

pub turns_are_one : (ps : List Place) (n m k : ℕ → ℕ) → InTurn n ps m → InTurn n ps k → m ≡ k
turns_are_one [] n m k h i = h ∙ sym i
turns_are_one (p ∷ ps) n m k h i = turns_are_one ps (one_record_more p.thread n) m k h.1 i.1

-- ---- no place that comes is wrong

contains_at : (front : List Place) (p : Place) (back : List Place) → Contains (front ++ p ∷ back) p
contains_at [] p back = (0, omega arith, refl)
contains_at (q ∷ front) p back = let on = contains_at front p back in (suc on.0, omega (arith, on.1), on.2)

pub none_waits : (o : Outcome) (a : Answer) → o ≡ retried → answer_of o ≡ Some a → ⊥
none_waits o a e h = cc (ap answer_of e)

module _ (limit : ℕ) (threads : List (List Command)) (replies : List (List (List ℕ))) (first : Store) (front : List Place) (p : Place) (back : List Place) (stand : ℕ → ℕ) (e : Store) (records : List (List Record)) (comes : PlacesReplayed limit threads replies first (front ++ p ∷ back) stand e records) where
  at_it : At limit threads records first front p back e
  at_it = replays_at limit threads records front p back first e comes.replays

  turn_it : TurnAt (λ _. 0) front p back stand
  turn_it = turns_at front p back (λ _. 0) stand comes.turns

  module _ (stand' : ℕ → ℕ) (now' : Store) (others : List (List Record)) (also : PlacesReplayed limit threads replies first front stand' now' others) where
    same_now : now' ≡ at_it.now
    same_now = (replays_are_one limit threads others records also.labelled comes.labelled front first now' at_it.now also.replays at_it.before).0

    same_stand : stand' ≡ turn_it.stand
    same_stand = turns_are_one front (λ _. 0) stand' turn_it.stand also.turns turn_it.before

    pub not_out_of_turn : IsOutOfTurn limit threads replies first p stand' now' → ⊥
    not_out_of_turn wrong = wrong (turn_it.next ∙ ap (λ (k : ℕ → ℕ). k p.thread) (sym same_stand))

    pub not_waiting : HasToWait limit threads replies first p stand' now' → ⊥
    not_waiting wrong =
        let same : wrong.meaning ≡ at_it.meaning = some_is wrong.meaning at_it.meaning (sym wrong.means ∙ at_it.means) in
        let waits : (run_on at_it.meaning at_it.now).outcome ≡ retried = ap₂ (λ (m : Meaning) (x : Store). (run_on m x).outcome) (sym same) (sym same_now) ∙ wrong.waits in
        none_waits (run_on at_it.meaning at_it.now).outcome at_it.commit.answer waits (at_it.commits.answers.run at_it.now at_it.commits.finds)

    pub not_replying_else : RepliesElse limit threads replies first p stand' now' → ⊥
    not_replying_else wrong =
        let same : wrong.meaning ≡ at_it.meaning = some_is wrong.meaning at_it.meaning (sym wrong.means ∙ at_it.means) in
        let moved : IsCommit at_it.meaning at_it.now wrong.commit = subst (λ (x : Store). IsCommit at_it.meaning x wrong.commit) same_now (subst (λ (m : Meaning). IsCommit m now' wrong.commit) same wrong.commits) in
        let one = commits_are_one at_it.meaning at_it.now at_it.commit wrong.commit at_it.commits moved in
        let named : label at_it.commit ≡ label wrong.commit = some_is (label at_it.commit) (label wrong.commit) (sym (labelled_at 1 threads records comes.labelled p.thread p.index at_it.commit at_it.stands) ∙ wrong.labelled) in
        let is : at_it.commit ≡ wrong.commit = record_is at_it.commit wrong.commit named one in
        wrong.differs (comes.said p (contains_at front p back) at_it.commit at_it.stands ∙ ap reply_line is)
