use Rattle.std.proofs.Common.{◌∷◌, [], ◌∙◌, ap}
use Rattle.sno_match.specs.Top.{first_point}
use Rattle.sno_match.proofs.SharedLaws.{begun_points}
use Rattle.sno_match.proofs.shared.SharedGoalsPoints.begin.Goals as goal

pub returns-clause-ok : goal.returns-clause-ok
returns-clause-ok c =
    let s = c.self.inside in
    begun_points s.lists.records.items c.put_front.new.records.items s.lists.pending.items c.clear.new.self.items c.args.goal c.in_ok-cursor.cursor c.in_ok-goals.goals
    c.clear.ensures.items c.in_ok-goals.ensures.ok ∙
    ap (λ at. first_point c.args.goal at ∷ []) c.in_ok-cursor.ensures
