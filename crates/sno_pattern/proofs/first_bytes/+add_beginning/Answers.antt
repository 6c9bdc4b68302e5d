use Rattle.std.proofs.Common.{◌≡◌, ◌||◌, ℕ, sym, subst, arith, IfSome}
use Rattle.sno_pattern.specs.declared.kind.Kind.TheVariants as K
use Rattle.sno_pattern.specs.Ends.{is_in}
use Rattle.sno_pattern.specs.inner.Kinds.{nodes_of}
use Rattle.sno_pattern.specs.Masks.{members}
use Rattle.sno_pattern.specs.Places.{BeginsWith}
use Rattle.sno_pattern.specs.Table.{tree}
use Rattle.sno_pattern.proofs.FirstByteLaws as laws
use Rattle.sno_pattern.proofs.first_bytes.+add_beginning.Goals as goal

pub add_beginning-requires : goal.add_beginning-requires
add_beginning-requires t c = (
  omega (arith, c.decreases, c.if-depth-eq0.false),
  (
    c.requires.table,
    laws.cat_below c.args.entries.now c.args.id.0 c.index-entries-id.result c.requires.table c.requires.known (sym c.index-entries-id.is) c.in-Cat.part
        c.in-Cat._second c.in-Cat.is,
  ),
)

pub add_beginning-requires-in-Cond : goal.add_beginning-requires-in-Cond
add_beginning-requires-in-Cond t c = (
  omega (arith, c.decreases, c.if-depth-eq0.false),
  (
    c.requires.table,
    laws.cond_below c.args.entries.now c.args.id.0 c.index-entries-id.result c.requires.table c.requires.known (sym c.index-entries-id.is) c.in-Cond.part
        c.in-Cond._target c.in-Cond.is,
  ),
)

pub add_beginning-requires-in-Imm : goal.add_beginning-requires-in-Imm
add_beginning-requires-in-Imm t c = (
  omega (arith, c.decreases, c.if-depth-eq0.false),
  (
    c.requires.table,
    laws.imm_below c.args.entries.now c.args.id.0 c.index-entries-id.result c.requires.table c.requires.known (sym c.index-entries-id.is) c.in-Imm.part
        c.in-Imm._target c.in-Imm.is,
  ),
)

pub returns-in_ok-steps-in-Alt-clause-begins : goal.returns-in_ok-steps-in-Alt-clause-begins
returns-in_ok-steps-in-Alt-clause-begins t c =
    let nodes = nodes_of c.args.entries.now in
    let kept = laws.kept_bytes c.args.entries.now c.args.id.0 c.index-entries-id.result c.requires.table c.requires.known (sym c.index-entries-id.is)
    c.in-Alt._first c.in-Alt._second c.in-Alt.begins c.in-Alt.is in
    laws.begins-more (members c.in-Alt.begins.words) c.add_all.new.self
    (laws.among_all c.args.set.now c.add_all.new.self (members c.in-Alt.begins.words) (subst (λ set. (b : ℕ) → is_in c.add_all.new.self b
    ≡ (is_in c.args.set.now b || is_in set b)) c.with_words.ensures c.add_all.ensures))
    (tree nodes c.args.id.0) c.in_ok-steps-in-Alt.steps (subst (λ known. IfSome known (λ steps. BeginsWith (members c.in-Alt.begins.words) steps
    (tree nodes c.args.id.0))) c.in_ok-steps-in-Alt.was kept)

pub returns-in_ok-more-in-Cat-clause-begins : goal.returns-in_ok-more-in-Cat-clause-begins
returns-in_ok-more-in-Cat-clause-begins t c =
    let nodes = nodes_of c.args.entries.now in
    let set = c.add_beginning.new.set in
    subst (λ n. BeginsWith set n (tree nodes c.args.id.0)) (sym c.in_ok-more-in-Cat.ensures.1)
    (laws.cat_begins c.args.entries.now c.args.id.0 c.index-entries-id.result c.requires.table c.requires.known (sym c.index-entries-id.is)
    set c.in-Cat.part c.in_ok-steps-in-Cat.steps c.in_ok-steps-in-Cat.ensures.begins c.in-Cat._second c.in-Cat.is)

pub returns-in_ok-more-in-Cond-clause-begins : goal.returns-in_ok-more-in-Cond-clause-begins
returns-in_ok-more-in-Cond-clause-begins t c =
    let nodes = nodes_of c.args.entries.now in
    let set = c.add_beginning-in-Cond.new.set in
    subst (λ n. BeginsWith set n (tree nodes c.args.id.0)) (sym c.in_ok-more-in-Cond.ensures.1)
    (laws.cond_begins c.args.entries.now c.args.id.0 c.index-entries-id.result c.requires.table c.requires.known (sym c.index-entries-id.is)
    set c.in-Cond.part c.in_ok-steps-in-Cond.steps c.in_ok-steps-in-Cond.ensures.begins c.in-Cond._target c.in-Cond.is)

pub returns-in_ok-more-in-Imm-clause-begins : goal.returns-in_ok-more-in-Imm-clause-begins
returns-in_ok-more-in-Imm-clause-begins t c =
    let nodes = nodes_of c.args.entries.now in
    let set = c.add_beginning-in-Imm.new.set in
    subst (λ n. BeginsWith set n (tree nodes c.args.id.0)) (sym c.in_ok-more-in-Imm.ensures.1)
    (laws.imm_begins c.args.entries.now c.args.id.0 c.index-entries-id.result c.requires.table c.requires.known (sym c.index-entries-id.is)
    set c.in-Imm.part c.in_ok-steps-in-Imm.steps c.in_ok-steps-in-Imm.ensures.begins c.in-Imm._target c.in-Imm.is)

pub returns-else-not-add_first_bytes_of_kind-clause-begins : goal.returns-else-not-add_first_bytes_of_kind-clause-begins
returns-else-not-add_first_bytes_of_kind-clause-begins t c =
    laws.leaf_begins c.args.entries.now c.args.id.0 c.index-entries-id.result c.requires.table c.requires.known (sym c.index-entries-id.is)
    c.add_first_bytes_of_kind.new.set (c.add_first_bytes_of_kind.ensures.known c.if-not-add_first_bytes_of_kind.false)
    (laws.shown c.args.entries.now c.args.id.0 c.index-entries-id.result c.requires.table c.requires.known (sym c.index-entries-id.is)
    (K.Text c.in-Text._text) c.in-Text.is)

pub returns-else-not-add_first_bytes_of_kind-2-clause-begins : goal.returns-else-not-add_first_bytes_of_kind-2-clause-begins
returns-else-not-add_first_bytes_of_kind-2-clause-begins t c =
    laws.leaf_begins c.args.entries.now c.args.id.0 c.index-entries-id.result c.requires.table c.requires.known (sym c.index-entries-id.is)
    c.add_first_bytes_of_kind-in-Among.new.set (c.add_first_bytes_of_kind-in-Among.ensures.known c.if-not-add_first_bytes_of_kind-2.false)
    (laws.shown c.args.entries.now c.args.id.0 c.index-entries-id.result c.requires.table c.requires.known (sym c.index-entries-id.is)
    (K.Among c.in-Among._prim c.in-Among._set) c.in-Among.is)
