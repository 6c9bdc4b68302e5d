-- A primitive with its argument.
use Rattle.std.proofs.Common.{◌≡◌, ◌∙◌, subst, false, ℕ, ◌+◌, ◌<◌, ◌≤◌, ◌↔◌, nat_lt, pos, negsuc, List, [], ◌∷◌, length, refl, sym, arith, Result, Ok, Err, IsErrOf}
use Rattle.std.proofs.lemmas.List.{append-nil}
use Rattle.std.proofs.lemmas.Bool.{le-ltb}
use Rattle.std.proofs.lemmas.Int.{ints}
use Rattle.sno_value.specs.declared.ids.PatId.{PatId}
use Rattle.sno_value.specs.declared.kind.PrimitiveKind.{PrimitiveKind}
use Rattle.sno_pattern.specs.declared.argument.Arg.{Arg}
use Rattle.sno_pattern.specs.declared.argument.Arg.TheVariants.{Count, Set}
use Rattle.sno_pattern.specs.declared.table.BuildError.{BuildError}
use Rattle.sno_pattern.specs.declared.table.BuildError.TheVariants as refusal
use Rattle.sno_pattern.specs.Pattern.{Pattern, Leaf, Counted, Among}
use Rattle.sno_pattern.specs.Table.{LeafNode, Node}
use Rattle.sno_pattern.specs.Built.{Appends}
use Rattle.sno_pattern.specs.Arguments.{IsGoodArg, IsNullSet, IsBadCount, primitive_of}
use Rattle.sno_pattern.specs.Sets.{set_of}
use Rattle.sno_runtime.specs.declared.stops.Exit.TheVariants.{Halt}
use Rattle.sno_runtime.specs.declared.stops.Stop.TheVariants.{Error as HasError}
use Rattle.sno_runtime.specs.Action.{Error, Stops, Action, stops}
use Rattle.sno_runtime.specs.Operators.{makes}
use Rattle.sno_runtime.specs.Runtime.{Runtime, world, IsKnown, made_nodes, tree_of, IsPatternOf}
use Rattle.sno_runtime.specs.inner.Runtime.{untouched, Does, exit_of}
use Rattle.sno_runtime.specs.inner.Primitives.{with_bytes, makes_primitive}
use Rattle.sno_runtime.proofs.Outcomes.{no_memory_does}
use Rattle.sno_runtime.proofs.Builders.{made}

pub primitive_made : (kind : PrimitiveKind) (arg : Arg) (a b : Runtime) (id : PatId) → IsKnown a.nodes a.store
    → (IsGoodArg arg → made_nodes a < 4000000) → b ≡ record a { nodes = b.nodes } → IsGoodArg arg
    → Appends a.nodes b.nodes (LeafNode (primitive_of kind arg)) id
    → Does tree_of IsPatternOf (makes_primitive kind arg) a b (Ok id)
primitive_made kind (Count (pos n)) a b id known fits same good h = made _ a b id known (fits good) same h
primitive_made kind (Count (negsuc n)) a b id known fits same good h = absurd (omega (arith, ints))
primitive_made kind (Set bytes) a b id known fits same good h = set_made kind bytes.now a b id known (fits good) same good h
  where
    set_made : (kind : PrimitiveKind) (bytes : List ℕ) (a b : Runtime) (id : PatId) → IsKnown a.nodes a.store → made_nodes a < 4000000
        → b ≡ record a { nodes = b.nodes } → 0 < length bytes → Appends a.nodes b.nodes (LeafNode (Among kind (set_of bytes))) id
        → Does tree_of IsPatternOf (with_bytes kind bytes) a b (Ok id)
    set_made kind [] a b id known fits same good h = absurd (omega arith)
    set_made kind (byte ∷ bytes) a b id known fits same good h = made _ a b id known fits same h

-- a part that stops with an error
pub stopped : (act : Action Pattern) (code : ℕ) (a b : Runtime) → b.nodes ≡ a.nodes → untouched b ≡ untouched a
    → ((more : List ℕ) → ((act (world a more)).ending ≡ Stops (Error code)) × ((act (world a more)).wrote ≡ []))
    → Does {X = PatId} tree_of IsPatternOf act a b (Err (Halt (HasError code)))
stopped act code a b same u ends = record { grows = ([], same ∙ sym (append-nil a.nodes)); meets = ends; answer = tt; unread = u }

-- a builder finds no room
full_makes : (p : Pattern) (a b : Runtime) → b.nodes ≡ a.nodes → untouched b ≡ untouched a → 4000000 ≤ made_nodes a
    → Does {X = PatId} tree_of IsPatternOf (makes p) a b (Err (Halt (HasError 9)))
full_makes p a b same u full =
    let room : nat_lt (length a.nodes + a.counted) 4_000_000 ≡ false = le-ltb (length a.nodes + a.counted) 4_000_000 full in
    stopped (makes p) 9 a b same u (λ more. (rw room refl, rw room refl))

null_set : (kind : PrimitiveKind) (arg : Arg) (a b : Runtime) → b.nodes ≡ a.nodes → untouched b ≡ untouched a → IsNullSet arg
    → Does {X = PatId} tree_of IsPatternOf (makes_primitive kind arg) a b (Err (Halt (HasError 6)))
null_set kind (Count n) a b same u null = absurd null
null_set kind (Set bytes) a b same u null = rw null (stopped (stops (Error 6)) 6 a b same u (λ more. (refl, refl)))

bad_count : (kind : PrimitiveKind) (arg : Arg) (a b : Runtime) → b.nodes ≡ a.nodes → untouched b ≡ untouched a → IsBadCount arg
    → Does {X = PatId} tree_of IsPatternOf (makes_primitive kind arg) a b (Err (Halt (HasError 7)))
bad_count kind (Count (pos n)) a b same u bad = absurd (omega (arith, ints))
bad_count kind (Count (negsuc n)) a b same u bad = stopped (stops (Error 7)) 7 a b same u (λ more. (refl, refl))
bad_count kind (Set bytes) a b same u bad = absurd bad

no_room : (kind : PrimitiveKind) (arg : Arg) (a b : Runtime) → b.nodes ≡ a.nodes → untouched b ≡ untouched a → IsGoodArg arg → 4000000 ≤ made_nodes a
    → Does {X = PatId} tree_of IsPatternOf (makes_primitive kind arg) a b (Err (Halt (HasError 9)))
no_room kind (Count (pos n)) a b same u good full = full_makes (Leaf (Counted kind n)) a b same u full
no_room kind (Count (negsuc n)) a b same u good full = absurd (omega (arith, ints))
no_room kind (Set bytes) a b same u good full = no_room_for kind bytes.now a b same u good full
  where
    no_room_for : (kind : PrimitiveKind) (bytes : List ℕ) (a b : Runtime) → b.nodes ≡ a.nodes → untouched b ≡ untouched a → 0 < length bytes
        → 4000000 ≤ made_nodes a → Does {X = PatId} tree_of IsPatternOf (with_bytes kind bytes) a b (Err (Halt (HasError 9)))
    no_room_for kind [] a b same u good full = absurd (omega arith)
    no_room_for kind (byte ∷ bytes) a b same u good full = full_makes (Leaf (Among kind (set_of (byte ∷ bytes)))) a b same u full

pub primitive_refused : (kind : PrimitiveKind) (arg : Arg) (a b : Runtime) (r : Result PatId BuildError) (e : BuildError) → r ≡ Err e → b.nodes ≡ a.nodes
    → untouched b ≡ untouched a
    → (IsErrOf r refusal.NullSet ↔ IsNullSet arg) → (IsErrOf r refusal.BadCount ↔ IsBadCount arg)
    → (IsErrOf r refusal.Full ↔ (IsGoodArg arg × (length a.nodes ≡ 4000000)))
    → Does tree_of IsPatternOf (makes_primitive kind arg) a b (Err (exit_of e))
primitive_refused kind arg a b r refusal.NullSet is same u null bad full = null_set kind arg a b same u (null.0 is)
primitive_refused kind arg a b r refusal.BadCount is same u null bad full = bad_count kind arg a b same u (bad.0 is)
primitive_refused kind arg a b r refusal.Full is same u null bad full = let h = full.0 is in no_room kind arg a b same u h.0 (omega (arith, h.1))
primitive_refused kind arg a b r refusal.NoMemory is same u null bad full =
    no_memory_does tree_of IsPatternOf (makes_primitive kind arg) a b ([], same ∙ sym (append-nil a.nodes)) u

-- a primitive is made in a state that is the one before
pub primitive_behind : (kind : PrimitiveKind) (arg : Arg) (a v b : Runtime) (nodes : List Node) (id told : PatId) → IsKnown v.nodes v.store
    → (IsGoodArg arg → made_nodes a < 4000000) → v ≡ a → b ≡ record v { nodes = nodes } → told ≡ id → IsGoodArg arg
    → Appends v.nodes nodes (LeafNode (primitive_of kind arg)) id → Does tree_of IsPatternOf (makes_primitive kind arg) a b (Ok told)
primitive_behind kind arg a v b nodes id told known fits is only same good h =
    subst (λ (x : Runtime). (IsGoodArg arg → made_nodes x < 4000000) → Does tree_of IsPatternOf (makes_primitive kind arg) x b (Ok told)) is
    (λ room. rw (only, same) (primitive_made kind arg v (record v { nodes = nodes }) id known room refl good h)) fits
