-- Worked rows of the definitions, by computation.
use Rattle.std.proofs.Common.{◌≡◌, Some, None, [], ◌∷◌, codes, refl}
use Rattle.sno_value.specs.declared.kind.PrimitiveKind.TheVariants.{Len, Pos, Rpos, Tab, Rtab, Any, NotAny, Span, Break, BreakX}
use Rattle.sno_pattern.specs.Pattern.{Text, Arb, Bal, Rem, Fail, Leaf, Counted, Among}
use Rattle.sno_pattern.specs.Ends.{ends}
use Rattle.sno_pattern.specs.Sets.{set_of}
use Rattle.sno_pattern.specs.NextEnd.{next_end}

bal-nested : ends Bal (codes "(A)B") 0 ≡ 3 ∷ 4 ∷ []
bal-nested = refl

bal-in_brackets : ends Bal (codes "(A)B") 1 ≡ 2 ∷ []
bal-in_brackets = refl

bal-unmatched : ends Bal (codes "())") 0 ≡ 2 ∷ []
bal-unmatched = refl

bal-close : ends Bal (codes ")") 0 ≡ []
bal-close = refl

bal-close_open : ends Bal (codes ")(") 0 ≡ []
bal-close_open = refl

bal-open : ends Bal (codes "(A") 0 ≡ []
bal-open = refl

bal-next : next_end (Leaf Bal) (codes "(A)B") 0 3 ≡ Some 4
bal-next = refl

bal-last : next_end (Leaf Bal) (codes "(A)B") 0 4 ≡ None
bal-last = refl

arb-all : ends Arb (codes "AB") 0 ≡ 0 ∷ 1 ∷ 2 ∷ []
arb-all = refl

arb-end : ends Arb (codes "AB") 2 ≡ 2 ∷ []
arb-end = refl

break-missing : ends (Among Break (set_of (codes ","))) (codes "ABC") 0 ≡ []
unfolding set_of
break-missing = refl

break-here : ends (Among Break (set_of (codes ","))) (codes ",A") 0 ≡ 0 ∷ []
unfolding set_of
break-here = refl

break-ahead : ends (Among Break (set_of (codes ";,"))) (codes "A,B;") 0 ≡ 1 ∷ []
unfolding set_of
break-ahead = refl

break-behind : ends (Among Break (set_of (codes ","))) (codes "A,B") 2 ≡ []
unfolding set_of
break-behind = refl

breakx-all : ends (Among BreakX (set_of (codes "B"))) (codes "ABAB") 0 ≡ 1 ∷ 3 ∷ []
unfolding set_of
breakx-all = refl

breakx-here : ends (Among BreakX (set_of (codes "B"))) (codes "BB") 0 ≡ 0 ∷ 1 ∷ []
unfolding set_of
breakx-here = refl

breakx-behind : ends (Among BreakX (set_of (codes "B"))) (codes "ABAB") 2 ≡ 3 ∷ []
unfolding set_of
breakx-behind = refl

breakx-missing : ends (Among BreakX (set_of (codes "B"))) (codes "AAA") 0 ≡ []
unfolding set_of
breakx-missing = refl

span-run : ends (Among Span (set_of (codes "AB"))) (codes "ABAC") 0 ≡ 3 ∷ []
unfolding set_of
span-run = refl

span-to_end : ends (Among Span (set_of (codes "BA"))) (codes "ABA") 0 ≡ 3 ∷ []
unfolding set_of
span-to_end = refl

span-none : ends (Among Span (set_of (codes "AB"))) (codes "CAB") 0 ≡ []
unfolding set_of
span-none = refl

any-in : ends (Among Any (set_of (codes "BC"))) (codes "ABC") 2 ≡ 3 ∷ []
unfolding set_of
any-in = refl

any-out : ends (Among Any (set_of (codes "BC"))) (codes "ABC") 0 ≡ []
unfolding set_of
any-out = refl

not_any-out : ends (Among NotAny (set_of (codes "BC"))) (codes "ABC") 0 ≡ 1 ∷ []
unfolding set_of
not_any-out = refl

not_any-at_end : ends (Among NotAny (set_of (codes "BC"))) (codes "ABC") 3 ≡ []
unfolding set_of
not_any-at_end = refl

-- the order and the repeats of an argument do not count
set-order : set_of (codes "CABCA") ≡ codes "ABC"
unfolding set_of
set-order = refl

len-in : ends (Counted Len 2) (codes "ABC") 0 ≡ 2 ∷ []
len-in = refl

len-out : ends (Counted Len 2) (codes "ABC") 2 ≡ []
len-out = refl

tab-ahead : ends (Counted Tab 1) (codes "ABC") 0 ≡ 1 ∷ []
tab-ahead = refl

tab-behind : ends (Counted Tab 1) (codes "ABC") 2 ≡ []
tab-behind = refl

tab-out : ends (Counted Tab 4) (codes "ABC") 0 ≡ []
tab-out = refl

rtab-ahead : ends (Counted Rtab 1) (codes "ABC") 0 ≡ 2 ∷ []
rtab-ahead = refl

rtab-behind : ends (Counted Rtab 1) (codes "ABC") 3 ≡ []
rtab-behind = refl

pos-here : ends (Counted Pos 1) (codes "ABC") 1 ≡ 1 ∷ []
pos-here = refl

pos-elsewhere : ends (Counted Pos 1) (codes "ABC") 0 ≡ []
pos-elsewhere = refl

rpos-here : ends (Counted Rpos 1) (codes "ABC") 2 ≡ 2 ∷ []
rpos-here = refl

rpos-elsewhere : ends (Counted Rpos 1) (codes "ABC") 1 ≡ []
rpos-elsewhere = refl

rem-rest : ends Rem (codes "ABC") 1 ≡ 3 ∷ []
rem-rest = refl

fail-none : ends Fail (codes "ABC") 0 ≡ []
fail-none = refl

text-there : ends (Text (codes "BC")) (codes "ABC") 1 ≡ 3 ∷ []
text-there = refl

text-elsewhere : ends (Text (codes "BC")) (codes "ABC") 0 ≡ []
text-elsewhere = refl

text-null : ends (Text []) (codes "ABC") 3 ≡ 3 ∷ []
text-null = refl
