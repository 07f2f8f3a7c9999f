-- From commits to the entries of picks.
use Rattle.std.proofs.Common.{◌≡◌, ℕ, ◌+◌, ◌≤◌, ◌<◌, List, [], ◌∷◌, ◌++◌, true, length, take, drop, get_or, set, refl, sym, ap, ◌∙◌, subst, append_assoc, append-nil, length-set, arith, inr}
use Rattle.std.specs.Prelude.{All, Option, Some, None}
use Rattle.std.proofs.lemmas.List.{take-append-drop, take_all, take_more, take_more_set}
use Rattle.std.proofs.lemmas.List.Elements.{All-head, All-tail}
use Rattle.kc_model.specs.declared.footprint.Entry.{Entry}
use Rattle.kc_model.specs.declared.footprint.Footprint.{Footprint}
use Rattle.kc_model.specs.declared.reply.Answer.TheVariants as answer
use Rattle.kc_model.specs.declared.reply.Reply.{Reply}
use Rattle.kc_model.specs.declared.reply.Reply.TheVariants as reply
use Rattle.kc_store.specs.Knows.{AddsOne, Remembers, entry_of}
use Rattle.kc_store.proofs.Remembering.{remembers_on}
use Rattle.kc_store.specs.Views.{CallerView}
use Rattle.kc_text.specs.Committing.{CommitsText}
use Rattle.kc_text.specs.Meaning.{IsFitAct, IsText, op, text_meaning}
use Rattle.kc_text.specs.Pool.{IsTextOf}
use Rattle.kc_text.specs.declared.operation.TextAct.{TextAct}
use Rattle.kc_text.specs.declared.operation.TextAct.TheVariants as act
use Rattle.kc_text.specs.declared.texts.Texts.{Texts}
use Rattle.kc_text_laws.proofs.Turning.{turned_so}
use Rattle.kc_text_laws.specs.Holding.{lease_ended, ends_lease, is_text, opens_lease}
use Rattle.kc_text_laws.specs.Owning.{CallerKeeps, held_on}
use Rattle.kc_text_run.specs.Picking.{AddsPicks, ArePicks, AreTextsOf}
use Rattle.kc_xt.specs.Commit.{Answers}

module _ (t : Texts) (p : ℕ) where
  pub one_pick : (pick : ℕ) (c a b d : CallerView) (f g h : Footprint) (r : Reply) → Answers (text_meaning (op t (act.Name p pick))) (answer.Reply reply.Unit) f → AddsOne c f a → CommitsText t (act.Lease p) (reply.Value pick) g a b → CommitsText t (act.Return pick) r h b d → AddsPicks t p (pick ∷ []) c d
  one_pick pick c a b d f g h r names named leases ends =
      let ea = entry_of c.number named.0 f in
      let eb = entry_of a.number leases.entry.0 g in
      let ec = entry_of b.number ends.entry.0 h in
      let first : b.own ≡ c.own ++ ea ∷ eb ∷ [] = leases.entry.1 ∙ ap (λ es. es ++ eb ∷ []) named.1 ∙ append_assoc c.own (ea ∷ []) (eb ∷ []) in
      record {
        added = ea ∷ eb ∷ ec ∷ [];
        own = ends.entry.1 ∙ ap (λ es. es ++ ec ∷ []) first ∙ append_assoc c.own (ea ∷ eb ∷ []) (ec ∷ []);
        are = (record { names = names; leases = leases.replies; replied = r; ends = ends.replies }, tt);
      }

  pub no_picks : (c : CallerView) → AddsPicks t p [] c c
  no_picks c = record { added = []; own = sym (append-nil c.own); are = tt }

  picks_append : (ks ls : List ℕ) (xs ys : List Entry) → ArePicks t p ks xs → ArePicks t p ls ys → ArePicks t p (ks ++ ls) (xs ++ ys)
  picks_append [] ls [] ys h g = g
  picks_append [] ls (a ∷ xs) ys h g = absurd h
  picks_append (k ∷ ks) ls [] ys h g = absurd h
  picks_append (k ∷ ks) ls (a ∷ []) ys h g = absurd h
  picks_append (k ∷ ks) ls (a ∷ b ∷ []) ys h g = absurd h
  picks_append (k ∷ ks) ls (a ∷ b ∷ c ∷ xs) ys h g = (h.0, picks_append ks ls xs ys h.1 g)

  pub more_picks : (ks ls : List ℕ) (c b d : CallerView) → AddsPicks t p ks c b → AddsPicks t p ls b d → AddsPicks t p (ks ++ ls) c d
  more_picks ks ls c b d h g = record {
    added = h.added ++ g.added;
    own = g.own ∙ ap (λ es. es ++ g.added) h.own ∙ append_assoc c.own h.added g.added;
    are = picks_append ks ls h.added g.added h.are g.are;
  }

pub texts_append : (pool : List (List ℕ)) (ks ls : List ℕ) (xs ys : List (List ℕ)) → AreTextsOf pool ks xs → AreTextsOf pool ls ys → AreTextsOf pool (ks ++ ls) (xs ++ ys)
texts_append pool [] ls [] ys h g = g
texts_append pool [] ls (x ∷ xs) ys h g = absurd h
texts_append pool (k ∷ ks) ls [] ys h g = absurd h
texts_append pool (k ∷ ks) ls (x ∷ xs) ys h g = (h.0, texts_append pool ks ls xs ys h.1 g)

-- the first i picks are read
pub record ReadTo (t : Texts) (pool : List (List ℕ)) (p : ℕ) (picks : List ℕ) (first now : CallerView) (old new : List (List ℕ)) (i : ℕ) : Type 0 where
  pub same : length new ≡ length old
  pub lines : AreTextsOf pool (take i picks) (take i new)
  pub own : AddsPicks t p (take i picks) first now
  pub remembers : Remembers first now

module _ (t : Texts) (pool : List (List ℕ)) (p : ℕ) (picks : List ℕ) (first : CallerView) (old : List (List ℕ)) where
  pub nothing_read : Remembers first first → ReadTo t pool p picks first first old old 0
  nothing_read k = record { same = refl; lines = tt; own = no_picks t p first; remembers = k }

  pub read_more : (now next : CallerView) (new : List (List ℕ)) (i pick : ℕ) (line : List ℕ) → ReadTo t pool p picks first now old new i → i < length picks → length picks ≡ length old → pick ≡ get_or picks i 0
      → IsTextOf pool pick line → AddsPicks t p (pick ∷ []) now next → Remembers now next → ReadTo t pool p picks first next old (set new i line) (i + 1)
  read_more now next new i pick line h lt long is text own remembers =
      let more : take (i + 1) picks ≡ take i picks ++ pick ∷ [] = take_more picks i 0 lt ∙ ap (λ k. take i picks ++ k ∷ []) (sym is) in
      let room : i < length new = omega (arith, h.same, long, lt) in
      record {
        same = length-set new i line ∙ h.same;
        lines = rw (more, take_more_set new i line room) (texts_append pool (take i picks) (pick ∷ []) (take i new) (line ∷ []) h.lines (text, tt));
        own = rw more (more_picks t p (take i picks) (pick ∷ []) first now next h.own own);
        remembers = remembers_on first now next h.remembers remembers;
      }

  pub all_read : (now : CallerView) (new : List (List ℕ)) (i : ℕ) → ReadTo t pool p picks first now old new i → length old ≡ length picks → length picks ≤ i → AreTextsOf pool picks new × AddsPicks t p picks first now
  all_read now new i h long le =
      let a : take i picks ≡ picks = take_all i picks le in
      let b : take i new ≡ new = take_all i new (omega (arith, h.same, long, le)) in
      (rw (a, b) at h.lines, rw a at h.own)

pub texts_of_both : (pool : List (List ℕ)) (picks front back : List ℕ) (n : ℕ) (xs ys : List (List ℕ)) → front ≡ take n picks → back ≡ drop n picks → AreTextsOf pool front xs → AreTextsOf pool back ys → AreTextsOf pool picks (xs ++ ys)
texts_of_both pool picks front back n xs ys a b h g =
    let whole : front ++ back ≡ picks = rw (a, b) (take-append-drop n picks) in
    subst (λ ks. AreTextsOf pool ks (xs ++ ys)) whole (texts_append pool front back xs ys h g)

-- what a fresh caller added is all that it has
pub all_added : (t : Texts) (q : ℕ) (picks : List ℕ) (c d : CallerView) → c.own ≡ [] → AddsPicks t q picks c d → ArePicks t q picks d.own
all_added t q picks c d none h =
    let is : d.own ≡ h.added = h.own ∙ ap (λ es. es ++ h.added) none in
    subst (ArePicks t q picks) (sym is) h.are

-- ---- picks keep to the operations

module _ (t : Texts) (p : ℕ) (place : p < t.places) where
  no_text : (o : Option ℕ) (j : ℕ) → o ≡ None → is_text o j ≡ true → ⊥
  no_text None j e h = absurd (cc)
  no_text (Some i) j e h = absurd (cc)

  -- what is ended was opened by the lease before
  held_there : (k j : ℕ) (r : Reply) (b c : Entry) (held : ℕ) → IsText t j → IsText t k → Answers (text_meaning (op t (act.Lease p))) (answer.Reply (reply.Value k)) b.footprint → Answers (text_meaning (op t (act.Return k))) (answer.Reply r) c.footprint → ends_lease t j c.footprint ≡ true → 0 < held_on t j b.footprint held
  held_there k j r b c held text pick leases ends h =
      let e = (turned_so t j text (act.Return k) r c.footprint pick ends).1 in
      let o = (turned_so t j text (act.Lease p) (reply.Value k) b.footprint place leases).0 in
      let same : is_text (Some k) j ≡ true = by_reply r (sym e ∙ h) in
      let opens : opens_lease t j b.footprint ≡ true = o ∙ same in
      rw opens (omega arith)
    where
      by_reply : (r : Reply) → is_text (lease_ended (act.Return k) r) j ≡ true → is_text (Some k) j ≡ true
      by_reply reply.Unit h = h
      by_reply (reply.Value v) h = absurd (cc)
      by_reply (reply.Bool x) h = absurd (cc)
      by_reply reply.Empty h = absurd (cc)
      by_reply reply.Full h = absurd (cc)
      by_reply reply.Stranded h = absurd (cc)
      by_reply reply.Cancelled h = absurd (cc)
      by_reply (reply.Many items) h = absurd (cc)

  ends_none : (a : TextAct) (r : Reply) (e : Entry) (j : ℕ) → IsText t j → IsFitAct t a → lease_ended a r ≡ None → Answers (text_meaning (op t a)) (answer.Reply r) e.footprint → ends_lease t j e.footprint ≡ true → ⊥
  ends_none a r e j text fit none answers h = no_text (lease_ended a r) j none (sym (turned_so t j text a r e.footprint fit answers).1 ∙ h)

  pub picks_keep : (ks : List ℕ) (es : List Entry) (held : ℕ → ℕ) → All (IsText t) ks → ArePicks t p ks es → CallerKeeps t held es
  picks_keep [] [] held texts h = tt
  picks_keep [] (e ∷ es) held texts h = absurd h
  picks_keep (k ∷ ks) [] held texts h = absurd h
  picks_keep (k ∷ ks) (a ∷ []) held texts h = absurd h
  picks_keep (k ∷ ks) (a ∷ b ∷ []) held texts h = absurd h
  picks_keep (k ∷ ks) (a ∷ b ∷ c ∷ es) held texts h =
      let pick = All-head (IsText t) k ks texts in
      let one = h.0 in (
        inr (record { act = act.Name p k; fit = (place, pick); answer = answer.Reply reply.Unit; answers = one.names }),
        (λ j text e. absurd (ends_none (act.Name p k) reply.Unit a j text (place, pick) refl one.names e)),
        (
          inr (record { act = act.Lease p; fit = place; answer = answer.Reply (reply.Value k); answers = one.leases }),
          (λ j text e. absurd (ends_none (act.Lease p) (reply.Value k) b j text place refl one.leases e)),
          (
            inr (record { act = act.Return k; fit = pick; answer = answer.Reply one.replied; answers = one.ends }),
            (λ j text e. held_there k j one.replied b c (held_on t j a.footprint (held j)) text pick one.leases one.ends e),
            picks_keep ks es _ (All-tail (IsText t) k ks texts) h.1,
          ),
        ),
      )
