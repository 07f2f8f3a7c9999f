-- What reading and burying a text answer.
use Rattle.std.specs.Prelude.{◌≡◌, ℕ, List, false}
use Rattle.kc_model.specs.declared.footprint.Footprint.{Footprint}
use Rattle.kc_model.specs.declared.reply.Reply.{Reply}
use Rattle.kc_model.specs.declared.reply.Reply.TheVariants as reply
use Rattle.kc_store.specs.Views.{CallerView}
use Rattle.kc_text.specs.Committing.{CommitsText, FailsBy}
use Rattle.kc_text.specs.Pool.{IsTextOf}
use Rattle.kc_text.specs.declared.burying.Buried.{Buried}
use Rattle.kc_text.specs.declared.burying.Buried.TheVariants as buried
use Rattle.kc_text.specs.declared.operation.TextAct.TheVariants as act
use Rattle.kc_text.specs.declared.reading.TextRead.{TextRead}
use Rattle.kc_text.specs.declared.reading.TextRead.TheVariants as read
use Rattle.kc_text.specs.declared.texts.Texts.{Texts}

-- ---- the end of a lease of text j

abbrev pub GivesBack : Texts → (text : ℕ) → Footprint → CallerView → CallerView → Type 0
GivesBack t j back c d = (r : Reply) × CommitsText t (act.Return j) r back c d

-- what was made under the lease is answered, and that the lease ended or stays
abbrev pub AnswersBehind : {A : Type 0} → Texts → (text : ℕ) → A → Footprint → TextRead A → CallerView → CallerView → Type 0
AnswersBehind t j made lease (read.Read k result f back) c d = (k ≡ j) × (result ≡ made) × (f ≡ lease) × GivesBack t j back c d
AnswersBehind t j made lease (read.Kept k result f wear) c d = (k ≡ j) × (result ≡ made) × (f ≡ lease) × FailsBy t (act.Return j) wear c d
AnswersBehind t j made lease _ c d = ⊥

-- ---- reading

module _ {A : Type 0} (gives : List ℕ → A → Type 0) (pool : List (List ℕ)) (t : Texts) (p : ℕ) where
  -- what the place names was leased, as text j, and the result was made of the bytes of text j
  pub record ReadsLeased (j : ℕ) (result : A) (lease : Footprint) (c d : CallerView) : Type 0 where
    pub leases : CommitsText t (act.Lease p) (reply.Value j) lease c d
    pub text : List ℕ
    pub is : IsTextOf pool j text
    pub made : gives text result

  abbrev pub ReadsText : TextRead A → CallerView → CallerView → Type 0
  ReadsText (read.Read j result lease back) c d = (b : CallerView) × ReadsLeased j result lease c b × GivesBack t j back b d
  ReadsText (read.Kept j result lease wear) c d = (b : CallerView) × ReadsLeased j result lease c b × FailsBy t (act.Return j) wear b d
  ReadsText (read.Empty f) c d = CommitsText t (act.Lease p) reply.Empty f c d
  ReadsText (read.Full f) c d = CommitsText t (act.Lease p) reply.Full f c d
  ReadsText (read.Worn wear) c d = FailsBy t (act.Lease p) wear c d

-- ---- burying

-- text j was buried, and these are its bytes; or it is named or leased
abbrev pub Buries : List (List ℕ) → Texts → (text : ℕ) → Buried → CallerView → CallerView → Type 0
Buries pool t j (buried.Gone text f) c d = IsTextOf pool j text × CommitsText t (act.Bury j) reply.Unit f c d
Buries pool t j (buried.Named f) c d = CommitsText t (act.Bury j) (reply.Bool false) f c d
Buries pool t j (buried.Worn wear) c d = FailsBy t (act.Bury j) wear c d
