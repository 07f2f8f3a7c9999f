-- The commit on what was taken, as plain data.
use Rattle.std.proofs.Common.{◌≡◌, ℕ, List, [], ◌∷◌, Result, Ok, Err, refl, sym, ap, subst, ◌∙◌, arith, append-nil, get_or}
use Rattle.std.specs.Prelude.{IfOk, OnErr}
use Rattle.atomic_table.specs.Table.{Me, rest}
use Rattle.kc_locked.proofs.Sound.{sound_more}
use Rattle.kc_locked.specs.Held.{HeldView, IsSound, Adds, CommitsLocked}
use Rattle.kc_locked.specs.Locked.{Grown, pass_part, free_view}
use Rattle.kc_locked.specs.Locked.{entered_by, own_first}
use Rattle.kc_locked.specs.declared.held.Waits.{Waits}
use Rattle.kc_locked.specs.declared.rule.View.{View}
use Rattle.kc_model.specs.declared.footprint.Entry.{Entry}
use Rattle.kc_model.specs.declared.reply.Answer.{Answer}
use Rattle.kc_xt.specs.Meaning.{Meaning}

-- what lies in the slot is what was found
pub found_is : (h now : HeldView) (l rest : List (ℕ × HeldView)) → l ≡ (0, h) ∷ [] → l ≡ (0, now) ∷ rest → now ≡ h
found_is h now l rest is slot = ap (λ (m : List (ℕ × HeldView)). (get_or m 0 (0, h)).1) (sym slot ∙ is)

pub grown_one : (h now : HeldView) (e : Entry) → IsSound h → Adds e h now → Grown e.caller (e ∷ []) h now
grown_one h now e sound adds = record {
  sound = subst IsSound (λ i. record { opening = sym adds.opening i; history = sym adds.history i; cells = now.cells; spare = now.spare }) (sound_more h e now.cells now.spare sound adds.finds adds.store adds.size adds.spare);
  history = adds.history;
  opening = adds.opening;
  spare = adds.spare;
  mine = (refl, tt);
}

pub grown_none : (k : ℕ) (h : HeldView) → IsSound h → Grown k [] h h
grown_none k h sound = record { sound = sound; history = sym (append-nil h.history); opening = refl; spare = omega arith; mine = tt }

-- what came of the commit, whether it waits or not
pub entered : (m : Meaning) (a : Answer) (h now : HeldView) (e : Entry) (r : Result (Unit {0}) Waits) → IsSound h → IfOk r (λ _. CommitsLocked m a e h now) → OnErr r (now ≡ h) → Grown e.caller (entered_by r e) h now
entered m a h now e (Ok u) sound done waits = grown_one h now e sound done.adds
entered m a h now e (Err w) sound done waits = subst (Grown e.caller [] h) (sym waits) (grown_none e.caller h sound)

abbrev Mine : Type 0
Mine = Me HeldView View

-- the slot is one's only one, with what the commit made
pub back : (me after : Mine) (h now : HeldView) → me.1 ≡ (0, h) ∷ [] → after ≡ (me.0, (0, now) ∷ rest me.1) → after ≡ (me.0, (0, now) ∷ [])
back me after h now holds is = is ∙ ap (λ (l : List (ℕ × HeldView)). (me.0, (0, now) ∷ rest l)) holds

-- a free pass is its number, what is left and its own list
pub pass_is : (me : Mine) (k left : ℕ) (own : List Entry) → me ≡ (free_view (pass_part k left own ∷ []), []) → me ≡ (free_view (pass_part k left (own_first me.0.parts) ∷ []), [])
pass_is me k left own is = is ∙ ap (λ l. (free_view (pass_part k left l ∷ []), [])) (sym (ap (λ (m : Mine). own_first m.0.parts) is))
