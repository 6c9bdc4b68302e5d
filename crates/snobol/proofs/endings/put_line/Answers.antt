use Rattle.std.proofs.Common.{codes}
use Rattle.std.proofs.lemmas.Result.{err_from_is_err_and}
use Rattle.sno_io.proofs.Bytes.{appends_then}
use Rattle.snobol.specs.inner.Endings.{number_text}
use Rattle.snobol.proofs.JobLaws.{cut_first, cut_taken, cut_then}
use Rattle.snobol.proofs.endings.put_line.Goals as goal

pub returns-in_err-put-clause-bytes : goal.returns-in_err-put-clause-bytes
returns-in_err-put-clause-bytes g c =
    let p = err_from_is_err_and c.from_residual.result c.from_residual.ensures.1 in
    cut_taken _ _ _ _ _ p.1 (cut_first _ _ (codes "snobol4: ") _ c.in_err-put.ensures.bytes)

pub returns-in_err-put-2-clause-bytes : goal.returns-in_err-put-2-clause-bytes
returns-in_err-put-2-clause-bytes g c =
    let p = err_from_is_err_and c.from_residual-in_err-put-2.result c.from_residual-in_err-put-2.ensures.1 in
    cut_taken _ _ _ _ _ p.1 (cut_then _ _ _ (codes "snobol4: ") _ c.in_ok-put.ensures.bytes
    (cut_first _ _ c.args.line.text.now _ (rw c.as_bytes.ensures.value at c.in_err-put-2.ensures.bytes)))

pub returns-in_err-put_number-clause-bytes : goal.returns-in_err-put_number-clause-bytes
returns-in_err-put_number-clause-bytes g c =
    let p = err_from_is_err_and c.from_residual-in_err-put_number.result c.from_residual-in_err-put_number.ensures.1 in
    cut_taken _ _ _ _ _ p.1 (cut_then _ _ _ (codes "snobol4: ") _ c.in_ok-put.ensures.bytes
    (cut_then _ _ _ c.args.line.text.now _ (rw c.as_bytes.ensures.value at c.in_ok-put-2.ensures.bytes)
    (cut_first _ _ (number_text c.args.line.number) _ c.in_err-put_number.ensures.bytes)))

pub returns-in_err-put-3-clause-bytes : goal.returns-in_err-put-3-clause-bytes
returns-in_err-put-3-clause-bytes g c =
    let p = err_from_is_err_and c.from_residual-in_err-put-3.result c.from_residual-in_err-put-3.ensures.1 in
    cut_taken _ _ _ _ _ p.1 (cut_then _ _ _ (codes "snobol4: ") _ c.in_ok-put.ensures.bytes
    (cut_then _ _ _ c.args.line.text.now _ (rw c.as_bytes.ensures.value at c.in_ok-put-2.ensures.bytes)
    (cut_then _ _ _ (number_text c.args.line.number) _ c.in_ok-put_number.ensures.bytes
    (cut_first _ _ c.args.line.more.now _ (rw c.as_bytes-2.ensures.value at c.in_err-put-3.ensures.bytes)))))

pub returns-in_err-put_number-2-clause-bytes : goal.returns-in_err-put_number-2-clause-bytes
returns-in_err-put_number-2-clause-bytes g c =
    let p = err_from_is_err_and c.from_residual-in_err-put_number-2.result c.from_residual-in_err-put_number-2.ensures.1 in
    cut_taken _ _ _ _ _ p.1 (cut_then _ _ _ (codes "snobol4: ") _ c.in_ok-put.ensures.bytes
    (cut_then _ _ _ c.args.line.text.now _ (rw c.as_bytes.ensures.value at c.in_ok-put-2.ensures.bytes)
    (cut_then _ _ _ (number_text c.args.line.number) _ c.in_ok-put_number.ensures.bytes
    (cut_then _ _ _ c.args.line.more.now _ (rw c.as_bytes-2.ensures.value at c.in_ok-put-3.ensures.bytes)
    (cut_first _ _ (number_text c.args.line.last) _ c.in_err-put_number-2.ensures.bytes)))))

pub returns-in_err-put-4-clause-bytes : goal.returns-in_err-put-4-clause-bytes
returns-in_err-put-4-clause-bytes g c =
    let p = err_from_is_err_and c.from_residual-in_err-put-4.result c.from_residual-in_err-put-4.ensures.1 in
    cut_taken _ _ _ _ _ p.1 (cut_then _ _ _ (codes "snobol4: ") _ c.in_ok-put.ensures.bytes
    (cut_then _ _ _ c.args.line.text.now _ (rw c.as_bytes.ensures.value at c.in_ok-put-2.ensures.bytes)
    (cut_then _ _ _ (number_text c.args.line.number) _ c.in_ok-put_number.ensures.bytes
    (cut_then _ _ _ c.args.line.more.now _ (rw c.as_bytes-2.ensures.value at c.in_ok-put-3.ensures.bytes)
    (cut_then _ _ _ (number_text c.args.line.last) _ c.in_ok-put_number-2.ensures.bytes c.in_err-put-4.ensures.bytes)))))

pub returns-clause-bytes : goal.returns-clause-bytes
returns-clause-bytes g c =
    appends_then _ _ _ (codes "snobol4: ") _ c.in_ok-put.ensures.bytes
    (appends_then _ _ _ c.args.line.text.now _ (rw c.as_bytes.ensures.value at c.in_ok-put-2.ensures.bytes)
    (appends_then _ _ _ (number_text c.args.line.number) _ c.in_ok-put_number.ensures.bytes
    (appends_then _ _ _ c.args.line.more.now _ (rw c.as_bytes-2.ensures.value at c.in_ok-put-3.ensures.bytes)
    (appends_then _ _ _ (number_text c.args.line.last) _ c.in_ok-put_number-2.ensures.bytes c.in_ok-put-4.ensures.bytes))))
