-- The steps of the recursive readers.
use Rattle.std.proofs.Common.{◌≡◌, ◌≢◌, ℕ, ◌+◌, ◌<◌, ◌≤◌, ◌⊎◌, inl, inr, Bool, true, false, ◌&&◌, List, [], ◌∷◌, ◌++◌, length, arith, refl, sym, ◌∙◌, ap, subst}
use Rattle.std.proofs.Common.{Some, None, Option}
use Rattle.std.proofs.lemmas.Bool.{cases_lt}
use Rattle.std.proofs.lemmas.Bool.Decides.{nat_tests}
use Rattle.std.specs.declared.vec.Vec.{Vec}
use Rattle.std.specs.declared.alloc.Global.{Global}
use Rattle.sno_text.specs.declared.bytes.Class.TheVariants.{Blank, NameByte, UnarySign, Opening}
use Rattle.sno_text.specs.declared.node.Operator.{Operator}
use Rattle.sno_text.specs.declared.node.Operator.TheVariants.{Alternate, Concatenate, Add, Subtract, Divide, Multiply, Power, Conditional, Immediate}
use Rattle.sno_text.specs.declared.node.UnaryOperator.{UnaryOperator}
use Rattle.sno_text.specs.declared.node.Node.{Node}
use Rattle.sno_text.specs.declared.node.Node.TheVariants as nodes
use Rattle.sno_text.specs.declared.node.Span.{Span}
use Rattle.sno_value.specs.declared.ids.ExprId.{ExprId}
use Rattle.sno_text.specs.declared.table.Found.{Found}
use Rattle.sno_text.specs.declared.table.FoundList.{FoundList}
use Rattle.sno_text.specs.Bytes.{byte, is_unary, is_letter, is_opening, is_closing, IsWholeRun}
use Rattle.sno_text.specs.Trees.{unary_operator, Tree, Literal, Unary, Binary, Item, One, And, fits, StandsFor, operands}
use Rattle.sno_text.specs.Grammar.{level_of, applied, IsPair, IsName, Nonterminal, Level, Element, Primary, Argument, Arguments}
use Rattle.std.specs.List.{AllByRecursion}
use Rattle.sno_text.specs.Program.{IsWithin}
use Rattle.sno_text.specs.inner.Links.{Links, NoLink, Stops, Finds, Refuses, Shuts, Closes}
use Rattle.sno_text.specs.inner.Parsed.{applied_node, IsSound, Extends, Parsed, Growing, ParsedArgument, GivesList, Listing, ParsedList}
use Rattle.sno_text.proofs.Levels.{grows_first, refuses_first, grows_left, refuses_left, finds_right, refuses_right, finds_done}
use Rattle.sno_text.proofs.Elements.{finds_plain, finds_signed, refuses_element, finds_operand, refuses_operand}
use Rattle.std.proofs.lemmas.List.{get_or_past}
use Rattle.sno_text.proofs.Runs.{in_text}
use Rattle.sno_text.proofs.Joints.{link_unique}
use Rattle.sno_text.proofs.Lists.{finds_empty, finds_given, refuses_given, lists_first, refuses_lists, lists_next, refuses_next, finds_lists}
use Rattle.sno_text.proofs.Primaries.{finds_apply, refuses_apply, refuses_unpaired}
use Rattle.sno_text.proofs.Tables.{grown_push, grown_of, extends_none, extends_push, extends_trans, holds_pushed, stands_more, stands_below, stands_id_below}
use Rattle.sno_text.proofs.Tables.{length_pushed, length_grown, letter_is_name_byte, run_some, uses_none, uses_both, uses_pushed}

-- level 7 is an element
pub level_from_element : (s : List ℕ) (l i : ℕ) (old new : List Node) (o : Option Found) → l ≡ 7 → Parsed s Element (Stops s 7) i old new o
    → Parsed s (Level l) (Stops s l) i old new o
level_from_element s l i old new None e f = refuses_operand s l i e f
level_from_element s l i old new (Some x) e f = record {
  tree = f.tree;
  finds = finds_operand s l i x.end f.tree e f.finds;
  stands = f.stands;
  fit = f.fit;
  some = f.some;
  within = f.within;
  room = f.room;
  used = f.used;
}

pub growing_first : (s : List ℕ) (l i : ℕ) (old new : List Node) (f : Found) → l ≢ 7 → l ≤ 7 → Parsed s (Level (l + 1)) (Stops s (l + 1)) i old new (Some f)
    → Growing s l i old new f
growing_first s l i old new f h b g = record {
  tree = g.tree;
  grows = grows_first s l i f.end g.tree (omega arith) g.finds;
  stands = g.stands;
  fit = g.fit;
  some = g.some;
  within = g.within;
  room = g.room;
  used = g.used;
}

pub refused_first : (s : List ℕ) (l i : ℕ) → l ≢ 7 → l ≤ 7 → Refuses s (Level (l + 1)) (Stops s (l + 1)) i → Refuses s (Level l) (Stops s l) i
refused_first s l i h b f = refuses_first s l i (omega arith) f

power_level : (o : Operator) (l : ℕ) → level_of o ≡ l → l ≢ 5 → o ≢ Power
power_level o l e h p = h (sym e ∙ ap level_of p)

level_power : (o : Operator) → level_of o ≡ 5 → o ≡ Power
level_power Alternate e = absurd (omega arith)
level_power Concatenate e = absurd (omega arith)
level_power Add e = absurd (omega arith)
level_power Subtract e = absurd (omega arith)
level_power Divide e = absurd (omega arith)
level_power Multiply e = absurd (omega arith)
level_power Power e = refl
level_power Conditional e = absurd (omega arith)
level_power Immediate e = absurd (omega arith)

-- the node of an operator stands for its tree
stands_binary : {n : ℕ} (mid last new : List Node) (o : Operator) (a b id : ExprId) (t u : Tree) → StandsFor mid t (a ∷ [])
    → StandsFor last u (b ∷ []) → Extends n mid last →
    new ≡ last ++ nodes.Binary o a b ∷ [] → id.0 ≡ length last → StandsFor new (Binary o t u) (id ∷ [])
stands_binary mid last new o a b id t u f g x p q =
    let y = grown_push last new _ p in
    let f' = stands_more mid last t (a ∷ []) (grown_of x) f in
    let below = (stands_below last t (a ∷ []) f').0 in
    let below' = (stands_below last u (b ∷ []) g).0 in
    (id, a, b, refl, holds_pushed last new _ id p q, omega arith, omega arith, stands_more last new t (a ∷ []) y f', stands_more last new u (b ∷ []) y g)

fit_and : (a b c x y : Bool) → c ≡ (a && b) → a ≡ x → b ≡ y → c ≡ (x && y)
fit_and a b c x y e f g = cc

pub growing_left : {n : ℕ} (s : List ℕ) (l i k : ℕ) (old mid last new : List Node) (o : Operator) (f g r : Found) → l ≢ 5 → level_of o ≡ l
    → Growing s l i old mid f → Links s o f.end k → f.end < k →
    Parsed s (Level (l + 1)) (Stops s (l + 1)) k mid last (Some g) → Extends n mid last → new ≡ last ++ nodes.Binary o f.id g.id ∷ [] → r.id.0 ≡ length last
    → r.end ≡ g.end → r.fits ≡ (f.fits && g.fits) →
    Growing s l i old new r
growing_left s l i k old mid last new o f g r h e a link order b x p q m n = record {
  tree = Binary o a.tree b.tree;
  grows = rw m (grows_left s l i f.end k g.end a.tree b.tree o (power_level o l e h) e link a.grows b.finds);
  stands = stands_binary mid last new o f.id g.id r.id a.tree b.tree a.stands b.stands x p q;
  fit = fit_and f.fits g.fits r.fits _ _ n a.fit b.fit;
  some = let v = a.some in let w = b.some in omega arith;
  within = let v = b.within in omega arith;
  room = let v = a.room in let w = b.room in omega (arith, length_pushed last new _ p);
  used = uses_pushed (length old) last new _ r.id (uses_both (length old) mid last (f.id ∷ []) (g.id ∷ []) a.used b.used (grown_of x)) p q;
}

pub refused_left : (s : List ℕ) (l i k : ℕ) (old mid : List Node) (o : Operator) (f : Found) → l ≢ 5 → level_of o ≡ l
    → Growing s l i old mid f → Links s o f.end k →
    Refuses s (Level (l + 1)) (Stops s (l + 1)) k → Refuses s (Level l) (Stops s l) i
refused_left s l i k old mid o f h e a link b = refuses_left s l i f.end k a.tree o (power_level o l e h) e link a.grows b

pub gives_right : {n : ℕ} (s : List ℕ) (l i k : ℕ) (old mid last new : List Node) (o : Operator) (f g r : Found) → l ≡ 5 → level_of o ≡ l
    → Growing s l i old mid f → Links s o f.end k → f.end < k →
    Parsed s (Level l) (Stops s l) k mid last (Some g) → Extends n mid last → new ≡ last ++ nodes.Binary o f.id g.id ∷ [] → r.id.0 ≡ length last
    → r.end ≡ g.end → r.fits ≡ (f.fits && g.fits) →
    Parsed s (Level l) (Stops s l) i old new (Some r)
gives_right s l i k old mid last new o f g r h e a link order b x p q m n =
    let is : o ≡ Power = level_power o (e ∙ h) in
    let link' : Links s Power f.end k = subst (λ z. Links s z f.end k) is link in
    let found : Finds s (Level l) (Stops s l) i g.end (Binary o a.tree b.tree) =
    rw is (finds_right s l i f.end k g.end a.tree b.tree h link' a.grows b.finds) in
    record {
      tree = Binary o a.tree b.tree;
      finds = rw m found;
      stands = stands_binary mid last new o f.id g.id r.id a.tree b.tree a.stands b.stands x p q;
      fit = fit_and f.fits g.fits r.fits _ _ n a.fit b.fit;
      some = let v = a.some in let w = b.some in omega arith;
      within = let v = b.within in omega arith;
      room = let v = a.room in let w = b.room in omega (arith, length_pushed last new _ p);
      used = uses_pushed (length old) last new _ r.id (uses_both (length old) mid last (f.id ∷ []) (g.id ∷ []) a.used b.used (grown_of x)) p q;
    }

pub refused_right : (s : List ℕ) (l i k : ℕ) (old mid : List Node) (o : Operator) (f : Found) → l ≡ 5 → level_of o ≡ l
    → Growing s l i old mid f → Links s o f.end k →
    Refuses s (Level l) (Stops s l) k → Refuses s (Level l) (Stops s l) i
refused_right s l i k old mid o f h e a link b =
    let is : o ≡ Power = level_power o (e ∙ h) in
    refuses_right s l i f.end k a.tree h (subst (λ z. Links s z f.end k) is link) a.grows b

gives_done : (s : List ℕ) (l i : ℕ) (old new : List Node) (f : Found) → ((o : Operator) (k : ℕ) → Links s o f.end k → level_of o ≢ l)
    → Growing s l i old new f →
    Parsed s (Level l) (Stops s l) i old new (Some f)
gives_done s l i old new f h a = record {
  tree = a.tree;
  finds = finds_done s l i f.end a.tree h a.grows;
  stands = a.stands;
  fit = a.fit;
  some = a.some;
  within = a.within;
  room = a.room;
  used = a.used;
}

pub gives_over : (s : List ℕ) (l i : ℕ) (old new : List Node) (f : Found) → NoLink s f.end → Growing s l i old new f
    → Parsed s (Level l) (Stops s l) i old new (Some f)
gives_over s l i old new f h a = gives_done s l i old new f (λ o k link. absurd (h.none o k link)) a

pub gives_other : (s : List ℕ) (l i k : ℕ) (old new : List Node) (o : Operator) (f : Found) → level_of o ≢ l → Links s o f.end k → Growing s l i old new f
    → Parsed s (Level l) (Stops s l) i old new (Some f)
gives_other s l i k old new o f h link a = gives_done s l i old new f (λ p m other e. h (ap level_of (link_unique s o p f.end k m link other).0 ∙ e)) a

pub gives_plain : (s : List ℕ) (i k : ℕ) (old new : List Node) (f : Found) → IsWholeRun UnarySign s i k → Parsed s Primary (Stops s 7) k old new (Some f)
    → Parsed s Element (Stops s 7) k old new (Some f)
gives_plain s i k old new f h a = record {
  tree = a.tree;
  finds = finds_plain s k f.end a.tree h.stop a.finds;
  stands = a.stands;
  fit = a.fit;
  some = a.some;
  within = a.within;
  room = a.room;
  used = a.used;
}

-- one more sign before an element
pub gives_signed : (s : List ℕ) (i : ℕ) (o : UnaryOperator) (old mid new : List Node) (f r : Found) → is_unary (byte s i) ≡ true → o ≡ unary_operator (byte s i)
    → Parsed s Element (Stops s 7) (i + 1) old mid (Some f) →
    new ≡ mid ++ nodes.Unary o f.id ∷ [] → r.id.0 ≡ length mid → r.end ≡ f.end → r.fits ≡ f.fits → Parsed s Element (Stops s 7) i old new (Some r)
gives_signed s i o old mid new f r h d a p q m n = record {
  tree = Unary o a.tree;
  finds = rw (m, d) (finds_signed s i f.end a.tree h a.finds);
  stands = (
    r.id,
    f.id,
    refl,
    holds_pushed mid new _ r.id p q,
    (let below = (stands_below mid a.tree (f.id ∷ []) a.stands).0 in omega arith),
    stands_more mid new a.tree (f.id ∷ []) (grown_push mid new _ p) a.stands,
  );
  fit = n ∙ a.fit;
  some = let v = a.some in omega arith;
  within = let v = a.within in omega arith;
  room = let v = a.room in omega (arith, length_pushed mid new _ p);
  used = uses_pushed (length old) mid new _ r.id a.used p q;
}

-- arguments
pub gives_empty : (s : List ℕ) (i k : ℕ) (old new : List Node) (id : ExprId) → IsWholeRun Blank s i k → Closes s k → k ≤ length s →
    new ≡ old ++ nodes.Literal (record { start = k; end = k }) ∷ [] → id.0 ≡ length old
    → ParsedArgument s i old new (Some (record { id = id; end = k; fits = true }))
gives_empty s i k old new id r h w p q = record {
  tree = Literal k k;
  finds = finds_empty s i k r h;
  stands = (id, refl, holds_pushed old new _ id p q);
  fit = refl;
  order = r.run.order;
  within = w;
  room = let o = r.run.order in omega (arith, length_pushed old new _ p);
  used = uses_pushed (length old) old new _ id (uses_none old []) p q;
}

no_closing : (s : List ℕ) (k : ℕ) → byte s k ≢ 44 → is_closing (byte s k) ≡ false → Closes s k → ⊥
no_closing s k h e (inl f) = h f
no_closing s k h e (inr f) = cc

pub gives_given : (s : List ℕ) (i k l : ℕ) (old new : List Node) (f : Found) → IsWholeRun Blank s i k → byte s k ≢ 44 → is_closing (byte s k) ≡ false
    → Parsed s (Level 0) (Stops s 0) k old new (Some f) →
    IsWholeRun Blank s f.end l → l ≤ length s → ParsedArgument s i old new (Some (record { id = f.id; end = l; fits = f.fits }))
gives_given s i k l old new f r h e a t w = record {
  tree = a.tree;
  finds = finds_given s i k f.end l a.tree r (no_closing s k h e) a.finds t;
  stands = a.stands;
  fit = a.fit;
  order = let x = r.run.order in let y = a.some in let z = t.run.order in omega arith;
  within = w;
  room = let x = r.run.order in let y = a.room in let z = t.run.order in omega arith;
  used = a.used;
}

pub refused_given : (s : List ℕ) (i k : ℕ) → IsWholeRun Blank s i k → byte s k ≢ 44 → is_closing (byte s k) ≡ false → Refuses s (Level 0) (Stops s 0) k
    → Refuses s Argument (Closes s) i
refused_given s i k r h e f = refuses_given s i k r (no_closing s k h e) f

pub listing_first : (s : List ℕ) (i : ℕ) (old new : List Node) (ids : List ExprId) (f : Found) → ParsedArgument s i old new (Some f) → ids ≡ f.id ∷ []
    → Listing s i old new ids f.end f.fits
listing_first s i old new ids f a e = record {
  tree = One a.tree;
  lists = lists_first s i f.end a.tree a.finds;
  stands = rw e a.stands;
  fit = a.fit;
  order = a.order;
  within = a.within;
  room = a.room;
  used = rw e a.used;
}

pub listing_next : {n : ℕ} (s : List ℕ) (i e : ℕ) (old mid new : List Node) (ids more : List ExprId) (b c : Bool) (f : Found) → Listing s i old mid ids e b
    → byte s e ≡ 44 → ParsedArgument s (e + 1) mid new (Some f) → Extends n mid new →
    more ≡ ids ++ f.id ∷ [] → c ≡ (b && f.fits) → Listing s i old new more f.end c
listing_next s i e old mid new ids more b c f a h g x p q = record {
  tree = And a.tree g.tree;
  lists = lists_next s i e f.end a.tree g.tree h a.lists g.finds;
  stands = (ids, f.id, p, stands_more mid new a.tree ids (grown_of x) a.stands, g.stands);
  fit = fit_and b f.fits c _ _ q a.fit g.fit;
  order = let u = a.order in let v = g.order in omega arith;
  within = g.within;
  room = let u = a.room in let v = g.room in omega arith;
  used = rw p (uses_both (length old) mid new ids (f.id ∷ []) a.used g.used (grown_of x));
}

pub refused_next : (s : List ℕ) (i e : ℕ) (old mid : List Node) (ids : List ExprId) (b : Bool) → Listing s i old mid ids e b → byte s e ≡ 44
    → Refuses s Argument (Closes s) (e + 1) → Refuses s Arguments (Shuts s) i
refused_next s i e old mid ids b a h f = refuses_next s i e a.tree h a.lists f

pub gives_list : (s : List ℕ) (i e : ℕ) (old new : List Node) (ids : List ExprId) (b : Bool) → Listing s i old new ids e b → byte s e ≢ 44
    → GivesList s i old new ids e b
gives_list s i e old new ids b a h = record {
  tree = a.tree;
  finds = finds_lists s i e a.tree h a.lists;
  stands = a.stands;
  fit = a.fit;
  order = a.order;
  within = a.within;
  room = a.room;
  used = a.used;
}

applied_fits : (b i k : ℕ) (t : Tree) → fits (applied b i k t) ≡ fits t
applied_fits b i k t = grind (arith, nat_tests)

stands_call : (last new : List Node) (b i k : ℕ) (t : Tree) (ids : Vec ExprId Global) (id : ExprId) → b ≡ 40 → StandsFor last t ids.items
    → new ≡ last ++ nodes.Call (record { start = i; end = k }) ids ∷ [] → id.0 ≡ length last →
    StandsFor new (applied b i k t) (id ∷ [])
stands_call last new b i k t ids id e st p q =
    rw e (id, ids, refl, holds_pushed last new _ id p q, rw q (stands_below last t ids.items st), stands_more last new t ids.items (grown_push last new _ p) st)

not_call : (b i k : ℕ) (t : Tree) → b ≢ 40 → applied b i k t ≡ Item i k t
not_call b i k t h = grind (arith, nat_tests)

stands_item : (last new : List Node) (b i k : ℕ) (t : Tree) (ids : Vec ExprId Global) (id : ExprId) → b ≢ 40 → StandsFor last t ids.items
    → new ≡ last ++ nodes.Item (record { start = i; end = k }) ids ∷ [] → id.0 ≡ length last →
    StandsFor new (applied b i k t) (id ∷ [])
stands_item last new b i k t ids id e st p q =
    rw (not_call b i k t e) (
      id,
      ids,
      refl,
      holds_pushed last new _ id p q,
      rw q (stands_below last t ids.items st),
      stands_more last new t ids.items
          (grown_push last new _ p) st,
    )

gives_applied : (s : List ℕ) (i k : ℕ) (old last new : List Node) (node : Node) (id : ExprId) (e : ℕ) (b : Bool) (ids : List ExprId) → is_letter (byte s i)
    ≡ true → IsWholeRun NameByte s i k → IsPair (byte s k) (byte s e) → e < length s →
    (a : GivesList s (k + 1) old last ids e b) → StandsFor new (applied (byte s k) i k a.tree) (id ∷ []) → new ≡ last ++ node ∷ []
    → id.0 ≡ length last → operands node ≡ ids →
    Parsed s Primary (Stops s 7) i old new (Some (record { id = id; end = e + 1; fits = b }))
gives_applied s i k old last new node id e b ids h r pair w a st p q o =
    let name : IsName s i k = record { letter = h; rest = r } in
    record {
      tree = applied (byte s k) i k a.tree;
      finds = finds_apply s i k e a.tree name pair a.finds;
      stands = st;
      fit = a.fit ∙ sym (applied_fits (byte s k) i k a.tree);
      some = let u = run_some NameByte s i k r (letter_is_name_byte _ h) in let v = a.order in omega arith;
      within = omega arith;
      room = let u = run_some NameByte s i k r (letter_is_name_byte _ h) in let v = a.room in omega (arith, length_pushed last new _ p);
      used = uses_pushed (length old) last new node id (rw o a.used) p q;
    }

is_call : (b : ℕ) (span : Span) (ids : Vec ExprId Global) → b ≡ 40 → applied_node b span ids ≡ nodes.Call span ids
is_call b span ids e = rw e refl

is_item : (b : ℕ) (span : Span) (ids : Vec ExprId Global) → b ≢ 40 → applied_node b span ids ≡ nodes.Item span ids
is_item b span ids h = grind (arith, nat_tests)

cases_40 : (b : ℕ) → (b ≡ 40) ⊎ (b ≢ 40)
cases_40 b = grind (arith, nat_tests)

stands_applied : (last new : List Node) (b c i k : ℕ) (t : Tree) (ids : Vec ExprId Global) (id : ExprId) → c ≡ b → StandsFor last t ids.items
    → new ≡ last ++ applied_node c (record { start = i; end = k }) ids ∷ [] → id.0 ≡ length last →
    StandsFor new (applied b i k t) (id ∷ [])
stands_applied last new b c i k t ids id g st p q =
    elim (cases_40 b) [
      | inl e ↦ stands_call last new b i k t ids id e st (p ∙ ap (λ x. last ++ x ∷ []) (is_call c _ ids (g ∙ e))) q
      | inr h ↦ stands_item last new b i k t ids id h st (p ∙ ap (λ x. last ++ x ∷ []) (is_item c _ ids (λ e. h (sym g ∙ e)))) q
    ]

operands_applied : (b : ℕ) (span : Span) (ids : Vec ExprId Global) → operands (applied_node b span ids) ≡ ids.items
operands_applied b span ids = elim (cases_40 b) [
  | inl e ↦ ap operands (is_call b span ids e)
  | inr h ↦ ap operands (is_item b span ids h)
]

pub gives_call : (s : List ℕ) (i k c : ℕ) (old last new : List Node) (id : ExprId) (f : FoundList) → is_letter (byte s i) ≡ true → IsWholeRun NameByte s i k
    → c ≡ byte s k → IsPair (byte s k) (byte s f.end) → f.end < length s →
    ParsedList s (k + 1) old last (Some f) → new ≡ last ++ applied_node c (record { start = i; end = k }) f.ids ∷ [] → id.0 ≡ length last →
    Parsed s Primary (Stops s 7) i old new (Some (record { id = id; end = f.end + 1; fits = f.fits }))
gives_call s i k c old last new id f h r g pair w a p q =
    gives_applied s i k old last new _ id f.end f.fits f.ids.items h r pair w a (stands_applied last new (byte s k) c i k a.tree f.ids id g a.stands p q) p q
    (operands_applied c _ f.ids)

pub opening_within : (s : List ℕ) (k : ℕ) → is_opening (byte s k) ≡ true → k < length s
opening_within s k h = in_text Opening s k h

pub byte_within : (s : List ℕ) (k b : ℕ) → byte s k ≡ b → 0 < b → k < length s
byte_within s k b e h = elim (cases_lt k (length s)) [
  | inl lt ↦ lt
  | inr ge ↦ let z : byte s k ≡ 0 = get_or_past s k 0 ge in absurd (omega arith)
]

pair_some : (a b : ℕ) → IsPair a b → 0 < b
pair_some a b (inl p) = omega arith
pair_some a b (inr (inl p)) = omega arith
pair_some a b (inr (inr p)) = omega arith

pub pair_within : (s : List ℕ) (a k : ℕ) → IsPair a (byte s k) → k < length s
pair_within s a k p = byte_within s k (byte s k) refl (pair_some a (byte s k) p)

pub refused_apply : (s : List ℕ) (i k : ℕ) → is_letter (byte s i) ≡ true → IsWholeRun NameByte s i k → is_opening (byte s k) ≡ true
    → Refuses s Arguments (Shuts s) (k + 1) → Refuses s Primary (Stops s 7) i
refused_apply s i k h r o f = refuses_apply s i k (record { letter = h; rest = r }) o f

pub refused_unpaired : (s : List ℕ) (i k : ℕ) (old last : List Node) (f : FoundList) → is_letter (byte s i) ≡ true → IsWholeRun NameByte s i k
    → is_opening (byte s k) ≡ true → (IsPair (byte s k) (byte s f.end) → ⊥) →
    ParsedList s (k + 1) old last (Some f) → Refuses s Primary (Stops s 7) i
refused_unpaired s i k old last f h r o never a = refuses_unpaired s i k f.end a.tree (record { letter = h; rest = r }) o never a.finds

-- The table grows by a sound node: an operator between operands, a unary operator, a name with arguments.
pub extends_binary : {n : ℕ} {p : Nonterminal} {stops : ℕ → Type 0} (s : List ℕ) (l i k : ℕ) (old mid last new : List Node) (o : Operator) (f g : Found)
    → Growing s l i old mid f → Extends n old mid →
    Parsed s p stops k mid last (Some g) → Extends n mid last → new ≡ last ++ nodes.Binary o f.id g.id ∷ [] → Extends n old new
extends_binary {n} s l i k old mid last new o f g a x b y e =
    extends_trans n old last new (extends_trans n old mid last x y)
    (extends_push n last new _ e (record {
      operands = (
        let below = stands_id_below mid a.tree f.id a.stands in let grown = length_grown mid last (grown_of y) in
            omega arith,
        stands_id_below last b.tree g.id b.stands,
      );
      spans = tt;
      named = tt;
    }))

pub extends_unary : {n : ℕ} {p : Nonterminal} {stops : ℕ → Type 0} (s : List ℕ) (i : ℕ) (old mid new : List Node) (o : UnaryOperator) (f : Found)
    → Parsed s p stops i old mid (Some f) → Extends n old mid →
    new ≡ mid ++ nodes.Unary o f.id ∷ [] → Extends n old new
extends_unary {n} s i old mid new o f a x e =
    extends_trans n old mid new x (extends_push n mid new _ e (record { operands = stands_id_below mid a.tree f.id a.stands; spans = tt; named = tt }))

sound_applied : (n id b : ℕ) (span : Span) (ids : Vec ExprId Global) → AllByRecursion (λ a. a.0 < id) ids.items → IsWithin span n → span.start < span.end
    → IsSound n id (applied_node b span ids)
sound_applied n id b span ids f g h = elim (cases_40 b) [
  | inl e ↦ rw (is_call b span ids e) (record { operands = f; spans = g; named = h })
  | inr n ↦ rw (is_item b span ids n) (record { operands = f; spans = g; named = h })
]

pub extends_applied : {n : ℕ} (s : List ℕ) (i c : ℕ) (old last new : List Node) (span : Span) (f : FoundList)
    → ParsedList s i old last (Some f) → Extends n old last →
    IsWithin span n → span.start < span.end → new ≡ last ++ applied_node c span f.ids ∷ [] → Extends n old new
extends_applied {n} s i c old last new span f a x w h e =
    extends_trans n old last new x
    (extends_push n last new _ e (sound_applied n (length last) c span f.ids (stands_below last a.tree f.ids.items a.stands) w h))

pub ruleset step_facts = (
  level_from_element,
  growing_first,
  refused_first,
  growing_left,
  refused_left,
  gives_right,
  refused_right,
  gives_over,
  gives_other,
  gives_plain,
  gives_signed,
  refuses_element,
  gives_empty,
  gives_given,
  refused_given,
  listing_first,
  listing_next,
  refused_next,
  gives_list,
  refuses_lists,
  gives_call,
  opening_within,
  pair_within,
  refused_apply,
  refused_unpaired,
  extends_none,
)
