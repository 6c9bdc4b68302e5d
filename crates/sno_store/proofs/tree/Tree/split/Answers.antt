use Rattle.std.proofs.Common.{◌≡◌, ◌∙◌, ◌<◌, ◌≤◌, ◌+◌, ◌-◌, ◌%◌, ℕ, suc, length, replicate, take, ◌++◌, slice_index_or, slice_set, ap, arith, rules}
use Rattle.std.proofs.lemmas.List.{get_or-set_same, get_or_past, length-set}
use Rattle.sno_store.specs.declared.tree.End.{End}
use Rattle.sno_store.specs.inner.Paths.{at, end_of}
use Rattle.sno_store.proofs.PathLaws.{set_others, widened, widened_length, divided}
use Rattle.sno_store.proofs.tree.Tree.split.Goals as goal

pub returns : goal.returns
returns c =
    let old = c.args.self.now.slots.items in
    let ext = c.resize.new.self.items in
    let own = slice_index_or c.args.hashes.now (c.args.held - 1) 0 in
    let node = length old in
    let place = c.len-node.result + c.end-end.result.rest % 16 in
    let is_node : c.len-node.result ≡ node = search rules in
    let n = c.len-node.result + 16 in
    let more : length old ≤ n = omega (arith, is_node) in
    let filled : ext ≡ take n old ++ replicate (n - node) 0 = search rules in
    let long : length ext ≡ node + 16 = omega (arith, widened_length old ext n (n - node) filled more, is_node) in
    let same : (t : ℕ) → at ext t ≡ at old t = widened old ext n (n - node) filled more in
    let mid = slice_set ext place c.args.held in
    let new = slice_set mid c.args.slot c.in-Ok.link in
    let ends : c.end-end.result ≡ end_of old own = search rules in
    let some : 1 ≤ c.end-end.result.left = search rules in
    let left : (end_of old own).left ≡ suc (c.end-end.result.left - 1) = omega (arith, ap (λ (x : End). x.left) ends, some) in
    let lies : place ≡ node + (end_of old own).rest % 16 = ap (λ n. n + c.end-end.result.rest % 16) is_node
    ∙ ap (λ (x : End). node + x.rest % 16) ends in
    let small : c.end-end.result.rest % 16 < 16 = omega arith in
    let inside : place < length ext = omega (arith, is_node, long, small) in
    let link : c.in-Ok.link ≡ node + 1_000_000 = search rules in
    let past : c.args.slot < place = omega (arith, is_node, c.requires.within) in
    let wide : c.args.slot < length mid = omega (arith, length-set ext place c.args.held, long, c.requires.within) in
    record {
      each = λ i within. divided old mid new c.args.hashes.now c.args.slot c.args.held node place (c.end-end.result.left - 1) c.requires.live
          c.requires.here c.requires.few left lies past (omega (arith, c.requires.within)) (get_or_past {X = ℕ} old place 0 (omega (arith, is_node)))
          (get_or-set_same ext place c.args.held 0 inside) (λ t off. set_others ext place c.args.held t off ∙ same t)
          (get_or-set_same mid c.args.slot c.in-Ok.link 0 wide ∙ link) (set_others mid c.args.slot c.in-Ok.link) i;
    }
