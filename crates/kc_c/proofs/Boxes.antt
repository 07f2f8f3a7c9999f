-- A box of what a handle holds, as calls pass it.
use Rattle.std.proofs.Common.{[], ◌∷◌, refl}
use seplogic.Ra.Ura.{Ura}
use base.Logic.{emp, sep}
use base.Fml.{ftrue, fsep}
use contract.Running.{Running}
use denote.Exit.{no}
use denote.Param.{layout, arg}
use denote.Param.Glue as glue
use denote.Param.Laws.{Laws, arg_laws}
use denote.RattleType.{RattleType}
use denote.Triple.Carry.{beside, spared}
use denote.Triple.Spec.{Spec, triple_of}
use denote.Triple.Table.{run_framed, widened}
use mir.Raw.{raw as bare}
use mir.Syntax.{Dict, impl, tnil, tcons, dnil, method, no_args}
use prog.Model.{Model}
use prog.Wired.{Wired}
use types.Logic.{Logic, sem}
use types.Kit.{raw, ◌$◌, ◌∵◌, !, qed, keep, fjoin, show, done}
use denote.Steps.{nothing}
use Rattle.core.proofs.alloc.Calls.{Al}
use Rattle.kc_c.specs.contracts.client.Client as inner
use Rattle.kc_c.proofs.client.Client.TheLaws.{the_row_laws as client_laws}
use Rattle.kc_c.specs.contracts.kc_c++client++Client+Destruct.drop as drop
use Rattle.kc_c.proofs.kc_c++client++Client+Destruct.drop.Met as drop_met
use Rattle.kc_c.proofs.kc_c++client++Client+Destruct.drop.Symbol as drop_symbol
use Rattle.std.proofs.alloc.Global.TheLaws.{the_row_laws as heap_laws}
use Rattle.std.specs.contracts.alloc.Global as global
use Rattle.std_alloc.specs.contracts.boxed.Box as box
use Rattle.std_alloc.proofs.boxed.Box.TheLaws.{the_row_laws as box_laws}
use Rattle.std_heap.specs.contracts.GlobalAllocator.TheImpl.{ghosts, dict}

abbrev pub Heap : RattleType
Heap = global.the_row

abbrev pub Client : RattleType
Client = inner.the_row

abbrev pub Boxed : RattleType
Boxed = box.the_row Client Heap ghosts

-- as an argument for a type parameter
abbrev pub passed : RattleType → RattleType
passed T = arg (bare (layout T)) no T

abbrev pub client_passes : Laws (passed Client)
client_passes = arg_laws (bare (layout Client)) no Client client_laws refl

abbrev pub heap_passes : Laws (passed Heap)
heap_passes = arg_laws (bare (layout Heap)) no Heap heap_laws refl

abbrev pub heap_drop : Dict
heap_drop = impl ("kc_c::Destruct++none::drop" ∷ []) (tcons (layout (passed Heap)) tnil) dnil

abbrev pub client_drop : Dict
client_drop = impl (drop_symbol.symbol ∷ []) tnil dnil

abbrev pub heap : Al
heap = record { row = Heap; laws = heap_laws; g = ghosts; d = dict; drops = heap_drop }

-- a box is let go as an allocator's handle is, for what its machine value tells
abbrev pub boxed : Al
boxed = record { row = Boxed; laws = box_laws Client Heap ghosts client_laws heap_laws; g = record { dealloc_token = λ b τ p. ftrue }; d = dict; drops = heap_drop }

-- a client's drop is what a function with a parameter `T: Drop` is given
pub lets_go : {M : Type 1} (𝓤 : Ura M) (𝓛 : Logic 𝓤) (𝓜 : Model 𝓤 𝓛.H) (𝓡 : Running 𝓤 𝓛.H 𝓜) → Wired 𝓡.env drop_symbol.code → glue.Met 𝓛 𝓜 𝓡 𝓡.env (passed Client) client_drop
lets_go 𝓤 𝓛 𝓜 𝓡 wired =
    let k = method client_drop 0 no_args in let run = 𝓡.run (𝓡.env k) in let framed = run_framed 𝓤 𝓛.H 𝓜 𝓡 (𝓡.env k) in
    let S = drop.signature in let says : Spec 𝓤 S = drop.spec 𝓛 𝓜.mem 𝓡.returns in
    let quiet : Spec 𝓤 S = λ κs a. record { ghost = Unit {0}; requires = λ _. emp 𝓤; ensures = λ _ r. (glue.spent 𝓛 (passed Client) ([], tt) a).ensures tt r } in
    spared 𝓛 S run framed 1 (Client.lives, tt) quiet (beside 𝓛 S run framed says quiet (λ κs a g. g) (λ κs a g. emp 𝓤)
    (λ κs a g. qed 𝓛 (raw (emp 𝓤) ∷ []) ∵ nothing ! $ done !)
    (λ κs a g r. qed 𝓛 (raw ((says κs a).ensures g r) ∷ raw (emp 𝓤) ∷ []) ∵ keep ! [] $
    show ! (λ (seen : Unit {0} × Unit {0}). sep 𝓤 (sem 𝓛 (fsep ftrue ftrue)) (emp 𝓤)) (tt, tt) $ nothing ! $ nothing ! $ nothing ! $ fjoin ! $ done !)
    (widened 𝓤 𝓛.H (triple_of 𝓛 S says) 𝓜 𝓡 𝓡.env (𝓡.env drop_symbol.name) (𝓡.env k) (drop_symbol.as_method 𝓡.env wired k refl) (drop_met.met 𝓤 𝓛 𝓜 𝓡 wired)))
