use Rattle.std.proofs.Common.{rules, ◌≡◌, ◌<◌, length, arith}
use Rattle.sno_pattern.specs.declared.kind.Entry.{Entry}
use Rattle.sno_pattern.proofs.TableLaws.{appends, stands}
use Rattle.sno_pattern.proofs.table.append_numbered.Goals as goal

pub returns-clause-ok : goal.returns-clause-ok
returns-clause-ok c =
    let entry : Entry = record { kind = c.args.kind; quiet = c.is_quiet_over-quiet.result; number = c.args.number } in
    let last : c.len-id.result ≡ length c.args.entries.now.items = search rules in
    let room : length c.args.entries.now.items < 4000000 = omega arith in
    appends c.args.entries.now.items c.push.new.self.items entry c.len-id.result last room c.in_default.ensures.items

pub returns-clause-stands : goal.returns-clause-stands
returns-clause-stands c =
    let entry : Entry = record { kind = c.args.kind; quiet = c.is_quiet_over-quiet.result; number = c.args.number } in
    let last : c.len-id.result ≡ length c.args.entries.now.items = search rules in
    stands c.args.entries.now.items c.push.new.self.items entry c.len-id.result last c.in_default.ensures.items
