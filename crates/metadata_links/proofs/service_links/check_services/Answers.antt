use Rattle.std.proofs.Common.{◌+◌, drop, sym, ◌∙◌, ap}
use Rattle.std.specs.FinMap.{keys}
use Rattle.std.specs.List.{flat_map}
use Rattle.std.proofs.lemmas.Result.{err_from_is_err_and}
use Rattle.metadata_links.specs.Faults.{first_of, service_faults}
use Rattle.metadata_links.proofs.Rests.{rest_here, first_left}
use Rattle.metadata_links.proofs.service_links.check_services.Goals as goal

pub returns-in_err-check_service-clause-err : goal.returns-in_err-check_service-clause-err
returns-in_err-check_service-clause-err c =
    let faults_of = service_faults (keys c.args.files.now) in
    let items = c.as_slice-name-items.result.now in
    let item = c.loop-name-item.result in
    let e = c.in_err-check_service.field-0.0 in
    let p = err_from_is_err_and c.from_residual.result c.from_residual.ensures.1 in
    rw (p.1, p.2) (λ other.
    sym (ap first_of (rest_here (flat_map faults_of) items c.loop-name.name-index item _ c.loop-name-test.true c.loop-name-item.is c.loop-name.invariant))
    ∙ first_left (faults_of item) (flat_map faults_of (drop (c.loop-name.name-index + 1) items)) e (c.in_err-check_service.ensures.err other))
