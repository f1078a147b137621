use Rattle.std.proofs.Common.{◌≡◌, ◌/◌, length, ap, ◌∙◌, arith, rules}
use Rattle.std.specs.Simd.{first_chunks}
use Rattle.tasks.specs.Lists.{plainly}
use Rattle.tables.specs.Tables.{decoded}
use Rattle.tables.proofs.Pairing.{pairs, table_made}
use Rattle.tables.proofs.table.decode.Goals as goal

pub returns-in_err-header-clause-pairs : goal.returns-in_err-header-clause-pairs
returns-in_err-header-clause-pairs g c = pairs (g.T.Admission.admitted c.args.test.now) c.args.codes.test c.args.codes.cost c.args.codes.tests c.args.codes.costs

pub returns-in_err-check_header-clause-pairs : goal.returns-in_err-check_header-clause-pairs
returns-in_err-check_header-clause-pairs g c = pairs (g.T.Admission.admitted c.args.test.now) c.args.codes.test c.args.codes.cost c.args.codes.tests c.args.codes.costs

pub returns-then-bytes-header-clause-pairs : goal.returns-then-bytes-header-clause-pairs
returns-then-bytes-header-clause-pairs g c = pairs (g.T.Admission.admitted c.args.test.now) c.args.codes.test c.args.codes.cost c.args.codes.tests c.args.codes.costs

pub returns-clause-pairs : goal.returns-clause-pairs
returns-clause-pairs g c = pairs (g.T.Admission.admitted c.args.test.now) c.args.codes.test c.args.codes.cost c.args.codes.tests c.args.codes.costs

pub returns-clause-table : goal.returns-clause-table
returns-clause-table g c =
    let bytes = c.in_ok-header.bytes.now in
    let count : length bytes / 12 ≡ c.in_ok-header.header.count = omega (arith, c.if-bytes-header.false) in
    let records : c.as_chunks.result.0.now ≡ first_chunks 12 c.in_ok-header.header.count bytes = c.as_chunks.ensures.front ∙ ap (λ k. first_chunks 12 k bytes) count in
    let value : plainly c.read_tasks.result ≡ decoded (g.T.Admission.admitted c.args.test.now) c.args.codes.test c.args.codes.cost c.args.file.now = search rules in
    table_made (g.T.Admission.admitted c.args.test.now) c.args.codes.test c.args.codes.cost c.args.codes.tests c.args.codes.costs c.read_tasks.result c.args.file.now c.type_inv.file value
