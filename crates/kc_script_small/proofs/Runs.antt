-- The answers of a run fit.
use Rattle.std.proofs.Common.{◌≡◌, ℕ, zero, suc, List, [], ◌∷◌, Contains, Option, Some, None, refl, sym, ap, subst, ◌∙◌, arith}
use Rattle.std.specs.Option.{option_map}
use Rattle.kc_history.proofs.Choice.{some_is}
use Rattle.kc_history.specs.Records.{record_at}
use Rattle.kc_history.specs.declared.record.Place.{Place}
use Rattle.kc_history.specs.declared.record.Record.{Record}
use Rattle.kc_model.specs.Footprint.{put_at}
use Rattle.kc_model.specs.Store.{Store, after, cell_after}
use Rattle.kc_model.specs.declared.footprint.Put.{Put}
use Rattle.kc_model.specs.declared.reply.Answer.{Answer}
use Rattle.kc_model.specs.declared.reply.Answer.TheVariants as answer
use Rattle.kc_script.specs.Spells.{Spells}
use Rattle.kc_script_bundle.specs.Script.{Script}
use Rattle.kc_script_bundle.specs.declared.operation.Command.{Command}
use Rattle.kc_script_runs.proofs.Determined.{canonical_has, place}
use Rattle.kc_script_runs.specs.Run.{IsCommit, IsScriptRun, Replays, opening_store}
use Rattle.kc_script_small.proofs.Meanings.{AllSmall, EndsTo, MeansTo, TouchesSmall, given_small, last_small, reply_fits}
use Rattle.kc_script_small.proofs.Openings.{opens_small}
use Rattle.kc_script_small.proofs.Operations.{CommandSmall, meaning_means, spelled_small}
use Rattle.kc_script_small.specs.Small.{AllAnswersFit, AnswerFits, IsSmall}
use Rattle.kc_term.specs.Fit.{Each}
use Rattle.kc_xt.specs.Commit.{answer_of, kept, run_on}
use Rattle.kc_xt.specs.Meaning.{Meaning, Outcome, Touch, last_written, replied, retried, too_large, values}

-- ---- a commit

kept_small : (a : Answer) (ts : List Touch) → TouchesSmall ts → TouchesSmall (kept a ts)
kept_small (answer.Reply r) ts h = h
kept_small answer.TooLarge ts h = given_small ts

outcome_fits : (o : Outcome) (a : Answer) → EndsTo 16 o → answer_of o ≡ Some a → AnswerFits a
outcome_fits (replied r) a h e = subst AnswerFits (some_is (answer.Reply r) a e) (reply_fits r h)
outcome_fits too_large a h e = subst AnswerFits (some_is answer.TooLarge a e) tt
outcome_fits retried a h e = absurd (cc)

module _ (m : Meaning) (s : Store) (r : Record) (means : MeansTo 16 m) (commits : IsCommit m s r) (small : AllSmall (values s)) where
  commit_fits : AnswerFits r.answer
  commit_fits = outcome_fits (run_on m s).outcome r.answer (means _ (values s) [] small).ends_so (commits.answers.run s commits.finds)

  commit_small : AllSmall (values (after r.footprint s))
  commit_small l = by (put_at r.footprint.puts.items l) (last_written (kept r.answer (run_on m s).touches) l) refl refl
    where
      touches : TouchesSmall (kept r.answer (run_on m s).touches)
      touches = kept_small r.answer (run_on m s).touches (means _ (values s) [] small).touches

      makes : put_at r.footprint.puts.items l ≡ option_map (λ v. record { loc = record { 0 = l }; version = (s l).version; after = v }) (last_written (kept r.answer (run_on m s).touches) l)
      makes = (commits.answers.makes s commits.finds).puts l

      by : (o : Option Put) (w : Option ℕ) → put_at r.footprint.puts.items l ≡ o → last_written (kept r.answer (run_on m s).touches) l ≡ w → IsSmall (cell_after o (s l)).value
      by None w e f = small l
      by (Some p) None e f = absurd (none (sym e ∙ makes ∙ ap (option_map (λ v. record { loc = record { 0 = l }; version = (s l).version; after = v })) f))
        where
          none : Some p ≡ None → ⊥
          none h = cc
      by (Some p) (Some v) e f =
          let same : p.after ≡ v = ap (λ (q : Put). q.after) (some_is p (record { loc = record { 0 = l }; version = (s l).version; after = v }) (sym e ∙ makes ∙ ap (option_map (λ v. record { loc = record { 0 = l }; version = (s l).version; after = v })) f)) in
          subst IsSmall (sym same) (last_small (kept r.answer (run_on m s).touches) touches l v f)

-- ---- a replay

module _ (limit : ℕ) (threads : List (List Command)) (records : List (List Record)) (each : Each (Each CommandSmall) threads) where
  replay_fits : (order : List Place) (s e : Store) → Replays limit threads records s order e → AllSmall (values s) → (p : Place) → Contains order p → (r : Record) → record_at records p.thread p.index ≡ Some r → AnswerFits r.answer
  replay_fits [] s e h small p (k, lt, is) r at = absurd (omega arith)
  replay_fits (q ∷ ps) s e (m, c, means, stands, commit, rest) small p (zero, lt, is) r at =
      let same : c ≡ r = some_is c r (sym stands ∙ ap (λ (x : Place). record_at records x.thread x.index) is ∙ at) in
      subst (λ (x : Record). AnswerFits x.answer) same (commit_fits m s c (meaning_means limit threads each q.thread q.index m means) commit small)
  replay_fits (q ∷ ps) s e (m, c, means, stands, commit, rest) small p (suc k, lt, is) r at =
      replay_fits ps (after c.footprint s) e rest (commit_small m s c (meaning_means limit threads each q.thread q.index m means) commit small) p (k, omega arith, is) r at

pub answers_fit : {bytes : List ℕ} {s : Script} (records : List (List Record)) (order : List Place) (last : Store) → Spells bytes s → IsScriptRun s records order last → AllAnswersFit records
answers_fit {bytes} {s} records order last spells run t k r at =
    replay_fits s.limit s.threads records (spelled_small spells) order (opening_store s) last run.replays (opens_small spells) (place t k) (canonical_has records order run.canonical t k r at) r at
