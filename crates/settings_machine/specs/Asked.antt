-- The request that the machine sees: its lists are those of the vectors.
use Rattle.std.specs.Option.{option_map}
use Rattle.settings_machine.specs.Requests as machine
use Rattle.settings_machine.specs.declared.request.Guard.{Guard}
use Rattle.settings_machine.specs.declared.request.Guard.TheVariants as guard
use Rattle.settings_machine.specs.declared.request.Request.{Request}
use Rattle.settings_machine.specs.declared.request.Request.TheVariants as request

-- A change, guarded or not.
abbrev pub guarded_by : Guard → machine.Request → machine.Request
guarded_by guard.Off q = q
guarded_by guard.Render q = machine.Guarded q

abbrev pub request_of : Request → machine.Request
request_of request.Root = machine.Root
request_of request.OsNames = machine.OsNames
request_of request.Settings = machine.Settings
request_of (request.SettingsAt keys) = machine.SettingsAt keys.items
request_of (request.SettingsBelow key) = machine.SettingsBelow key
request_of (request.Patch tx pairs) = machine.Patch tx pairs.items
request_of (request.Services names) = machine.Services (option_map (λ v. v.items) names)
request_of (request.ConfigurationFiles names) = machine.ConfigurationFiles (option_map (λ v. v.items) names)
request_of (request.Affected keys) = machine.Affected keys.items
request_of (request.Pends tx) = machine.Pends tx
request_of (request.DropTx tx) = machine.DropTx tx
request_of request.TxList = machine.TxList
request_of (request.Commit tx guard) = guarded_by guard (machine.Commit tx)
request_of request.Apply = machine.Apply
request_of (request.CommitAndApply tx guard) = guarded_by guard (machine.CommitAndApply tx)
request_of request.JobNow = machine.JobNow
request_of (request.Set pairs guard) = guarded_by guard (machine.Set pairs.items)
request_of request.ApplyAll = machine.ApplyAll
request_of (request.Plan tx) = machine.Plan tx
request_of (request.PlanFile file tx) = machine.PlanFile file tx
request_of request.Store = machine.Store
request_of request.Verify = machine.Verify
