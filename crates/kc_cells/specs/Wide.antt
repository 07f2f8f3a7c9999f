-- What the operations on a number of 64 bits mean, by cells and on contents: one number below 2^64.
use Rattle.std.specs.Prelude.{◌≡◌, ℕ, ◌+◌, ◌*◌, ◌^◌, ◌%◌, ◌/◌, ◌<◌, ◌==◌, true, false, cond, [], ◌∷◌}
use Rattle.kc_cells.specs.declared.wide.Wide.{Wide}
use Rattle.kc_cells.specs.declared.wide.WideAct.{WideAct}
use Rattle.kc_cells.specs.declared.wide.WideOp.{WideOp}
use Rattle.kc_model.specs.declared.reply.Item.TheVariants as item
use Rattle.kc_model.specs.declared.reply.Reply.{Reply}
use Rattle.kc_model.specs.declared.reply.Reply.TheVariants as reply
use Rattle.kc_xt.specs.Meaning.{replied, Meaning}
use Rattle.kc_xt.specs.Program.{Program, read, write, replies, meaning, wrapped}
use Rattle.kc_xt.specs.Structure.{Standing, Value, comes_to}
use Rattle.kc_cells.specs.declared.wide.WideAct.TheVariants as act

-- how many cells
abbrev pub wide_cells : ℕ
wide_cells = 2

-- what each cell holds at the opening
abbrev pub wide_opening : ℕ → ℕ
wide_opening i = 0

-- a number above its cells
abbrev pub wide_cells_end : Wide → ℕ
wide_cells_end x = x.base.0 + wide_cells

-- ---- a number and its two words

abbrev pub low_word : ℕ → ℕ
low_word n = wrapped n

abbrev pub high_word : ℕ → ℕ
high_word n = wrapped (n / 2 ^ 32)

-- the number of two words
abbrev pub two_words : ℕ → ℕ → ℕ
two_words low high = low + high * 2 ^ 32

-- what wraps at 2^64
abbrev pub wrapped_wide : ℕ → ℕ
wrapped_wide n = n % 2 ^ 64

-- a reply of two words, the low one first
abbrev pub words_reply : ℕ → ℕ → Reply
words_reply low high = reply.Many (item.Value low ∷ item.Value high ∷ [])

-- a reply of a number
abbrev pub wide_reply : ℕ → Reply
wide_reply n = words_reply (low_word n) (high_word n)

-- ---- by cells: the low word, and behind it the high one

-- reads both words
abbrev pub reads_wide : ℕ → (ℕ → ℕ → Program) → Program
reads_wide base k = read base (λ low. read (base + 1) (λ high. k low high))

-- writes both words of a number
abbrev pub writes_wide : ℕ → ℕ → Program → Program
writes_wide base n p = write base (low_word n) (write (base + 1) (high_word n) p)

-- what an operation does, and what comes behind its reply
abbrev pub wide_program : Wide → WideAct → (Reply → Program) → Program
wide_program x act.Get k = reads_wide x.base.0 (λ low high. k (words_reply low high))
wide_program x (act.Put n) k = writes_wide x.base.0 n (k reply.Unit)
wide_program x (act.Add n) k = reads_wide x.base.0 (λ low high. writes_wide x.base.0 (wrapped_wide (two_words low high + n)) (k (words_reply low high)))
wide_program x (act.Cas before after) k = reads_wide x.base.0 (λ low high. cond (two_words low high == before) (writes_wide x.base.0 after (k (reply.Bool true))) (k (reply.Bool false)))

abbrev pub wide_meaning : WideOp → Meaning
wide_meaning o = meaning (wide_program o.wide o.act replies)

-- a number above its locations
abbrev pub wide_end : WideOp → ℕ
wide_end o = wide_cells_end o.wide

-- no location of it is below this one
abbrev pub wide_begin : WideOp → ℕ
wide_begin o = o.wide.base.0

-- ---- on contents

-- the cells stand for this number: they hold its words
abbrev pub WideStandsFor : Wide → Standing ℕ
WideStandsFor x m n = (n < 2 ^ 64) × (m x.base.0 ≡ low_word n) × (m (x.base.0 + 1) ≡ high_word n)

abbrev pub wide_value : WideAct → ℕ → Value ℕ
wide_value act.Get n = comes_to (replied (wide_reply n)) n
wide_value (act.Put v) n = comes_to (replied reply.Unit) (wrapped_wide v)
wide_value (act.Add v) n = comes_to (replied (wide_reply n)) (wrapped_wide (n + v))
wide_value (act.Cas before after) n = cond (n == before) (comes_to (replied (reply.Bool true)) (wrapped_wide after)) (comes_to (replied (reply.Bool false)) n)
