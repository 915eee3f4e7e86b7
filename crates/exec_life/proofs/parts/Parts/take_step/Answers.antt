use Rattle.exec_life.proofs.parts.Parts.take_step.Goals as goal

pub returns-in-Claim : goal.returns-in-Claim
returns-in-Claim c = rw c.in-Claim.is c.claim.ensures

pub claim-requires-clause-ready : goal.claim-requires-clause-ready
claim-requires-clause-ready c = c.requires.ready

pub claim-requires-clause-needs : goal.claim-requires-clause-needs
claim-requires-clause-needs c = rw c.in-Claim.is at c.requires.needs

pub returns-in-Begin : goal.returns-in-Begin
returns-in-Begin c = rw c.in-Begin.is c.begin.ensures

pub begin-requires-clause-ready : goal.begin-requires-clause-ready
begin-requires-clause-ready c = c.requires.ready

pub begin-requires-clause-needs : goal.begin-requires-clause-needs
begin-requires-clause-needs c = rw c.in-Begin.is at c.requires.needs

pub await_children-requires-clause-ready : goal.await_children-requires-clause-ready
await_children-requires-clause-ready c = c.requires.ready

pub returns-in-Rest : goal.returns-in-Rest
returns-in-Rest c = rw c.in-Rest.is c.rest.ensures

pub rest-requires-clause-ready : goal.rest-requires-clause-ready
rest-requires-clause-ready c = c.requires.ready

pub rest-requires-clause-needs : goal.rest-requires-clause-needs
rest-requires-clause-needs c = rw c.in-Rest.is at c.requires.needs

pub returns-in-Take : goal.returns-in-Take
returns-in-Take c = rw c.in-Take.is c.take.ensures

pub take-requires-clause-ready : goal.take-requires-clause-ready
take-requires-clause-ready c = c.requires.ready

pub take-requires-clause-needs : goal.take-requires-clause-needs
take-requires-clause-needs c = rw c.in-Take.is at c.requires.needs

pub returns-in-Finish : goal.returns-in-Finish
returns-in-Finish c = rw c.in-Finish.is c.finish.ensures

pub finish-requires-clause-ready : goal.finish-requires-clause-ready
finish-requires-clause-ready c = c.requires.ready

pub finish-requires-clause-needs : goal.finish-requires-clause-needs
finish-requires-clause-needs c = rw c.in-Finish.is at c.requires.needs

pub returns-in-Report : goal.returns-in-Report
returns-in-Report c = rw c.in-Report.is c.report.ensures

pub report-requires-clause-ready : goal.report-requires-clause-ready
report-requires-clause-ready c = c.requires.ready

pub report-requires-clause-needs : goal.report-requires-clause-needs
report-requires-clause-needs c = rw c.in-Report.is at c.requires.needs

pub returns-in-Release : goal.returns-in-Release
returns-in-Release c = rw c.in-Release.is c.release.ensures

pub release-requires-clause-ready : goal.release-requires-clause-ready
release-requires-clause-ready c = c.requires.ready

pub release-requires-clause-needs : goal.release-requires-clause-needs
release-requires-clause-needs c = rw c.in-Release.is at c.requires.needs

pub returns-in-Arm : goal.returns-in-Arm
returns-in-Arm c = rw c.in-Arm.is c.arm.ensures

pub arm-requires-clause-ready : goal.arm-requires-clause-ready
arm-requires-clause-ready c = c.requires.ready

pub arm-requires-clause-needs : goal.arm-requires-clause-needs
arm-requires-clause-needs c = rw c.in-Arm.is at c.requires.needs

pub returns-in-Look : goal.returns-in-Look
returns-in-Look c = rw c.in-Look.is c.look.ensures

pub look-requires-clause-ready : goal.look-requires-clause-ready
look-requires-clause-ready c = c.requires.ready

pub look-requires-clause-needs : goal.look-requires-clause-needs
look-requires-clause-needs c = rw c.in-Look.is at c.requires.needs

pub returns-in-Request : goal.returns-in-Request
returns-in-Request c = rw c.in-Request.is c.request.ensures

pub request-requires-clause-ready : goal.request-requires-clause-ready
request-requires-clause-ready c = c.requires.ready

pub request-requires-clause-needs : goal.request-requires-clause-needs
request-requires-clause-needs c = rw c.in-Request.is at c.requires.needs

pub returns-in-Run : goal.returns-in-Run
returns-in-Run c = rw c.in-Run.is c.run.ensures

pub run-requires-clause-ready : goal.run-requires-clause-ready
run-requires-clause-ready c = c.requires.ready

pub run-requires-clause-needs : goal.run-requires-clause-needs
run-requires-clause-needs c = rw c.in-Run.is at c.requires.needs

pub returns-in-EndRun : goal.returns-in-EndRun
returns-in-EndRun c = rw c.in-EndRun.is c.end_run.ensures

pub end_run-requires-clause-ready : goal.end_run-requires-clause-ready
end_run-requires-clause-ready c = c.requires.ready

pub end_run-requires-clause-needs : goal.end_run-requires-clause-needs
end_run-requires-clause-needs c = rw c.in-EndRun.is at c.requires.needs

pub returns-in-Withdraw : goal.returns-in-Withdraw
returns-in-Withdraw c = rw c.in-Withdraw.is c.withdraw.ensures

pub withdraw-requires-clause-ready : goal.withdraw-requires-clause-ready
withdraw-requires-clause-ready c = c.requires.ready

pub withdraw-requires-clause-needs : goal.withdraw-requires-clause-needs
withdraw-requires-clause-needs c = rw c.in-Withdraw.is at c.requires.needs

pub returns-in-WithdrawOwn : goal.returns-in-WithdrawOwn
returns-in-WithdrawOwn c = rw c.in-WithdrawOwn.is c.withdraw_own.ensures

pub withdraw_own-requires-clause-ready : goal.withdraw_own-requires-clause-ready
withdraw_own-requires-clause-ready c = c.requires.ready

pub withdraw_own-requires-clause-needs : goal.withdraw_own-requires-clause-needs
withdraw_own-requires-clause-needs c = rw c.in-WithdrawOwn.is at c.requires.needs

pub returns-in-SealScan : goal.returns-in-SealScan
returns-in-SealScan c = rw c.in-SealScan.is c.seal_scan.ensures

pub seal_scan-requires-clause-ready : goal.seal_scan-requires-clause-ready
seal_scan-requires-clause-ready c = c.requires.ready

pub seal_scan-requires-clause-needs : goal.seal_scan-requires-clause-needs
seal_scan-requires-clause-needs c = rw c.in-SealScan.is at c.requires.needs

pub returns-in-Skip : goal.returns-in-Skip
returns-in-Skip c = rw c.in-Skip.is c.skip.ensures

pub skip-requires-clause-ready : goal.skip-requires-clause-ready
skip-requires-clause-ready c = c.requires.ready

pub skip-requires-clause-needs : goal.skip-requires-clause-needs
skip-requires-clause-needs c = rw c.in-Skip.is at c.requires.needs

pub returns-in-Rouse : goal.returns-in-Rouse
returns-in-Rouse c = rw c.in-Rouse.is c.rouse.ensures

pub rouse-requires-clause-ready : goal.rouse-requires-clause-ready
rouse-requires-clause-ready c = c.requires.ready

pub rouse-requires-clause-needs : goal.rouse-requires-clause-needs
rouse-requires-clause-needs c = rw c.in-Rouse.is at c.requires.needs

pub returns-in-Enter : goal.returns-in-Enter
returns-in-Enter c = rw c.in-Enter.is c.enter.ensures

pub enter-requires-clause-ready : goal.enter-requires-clause-ready
enter-requires-clause-ready c = c.requires.ready

pub enter-requires-clause-needs : goal.enter-requires-clause-needs
enter-requires-clause-needs c = rw c.in-Enter.is at c.requires.needs

pub returns-in-MarkUsed : goal.returns-in-MarkUsed
returns-in-MarkUsed c = rw c.in-MarkUsed.is c.mark_used.ensures

pub mark_used-requires-clause-ready : goal.mark_used-requires-clause-ready
mark_used-requires-clause-ready c = c.requires.ready

pub mark_used-requires-clause-needs : goal.mark_used-requires-clause-needs
mark_used-requires-clause-needs c = rw c.in-MarkUsed.is at c.requires.needs

pub returns-in-Leave : goal.returns-in-Leave
returns-in-Leave c = rw c.in-Leave.is c.leave.ensures

pub leave-requires-clause-ready : goal.leave-requires-clause-ready
leave-requires-clause-ready c = c.requires.ready

pub leave-requires-clause-needs : goal.leave-requires-clause-needs
leave-requires-clause-needs c = rw c.in-Leave.is at c.requires.needs

pub returns-in-Close : goal.returns-in-Close
returns-in-Close c = rw c.in-Close.is c.close.ensures

pub close-requires : goal.close-requires
close-requires c = c.requires.ready.state

pub returns-in-Join : goal.returns-in-Join
returns-in-Join c = rw c.in-Join.is c.join.ensures

pub join-requires : goal.join-requires
join-requires c = c.requires.ready.state

pub returns-in-Seal : goal.returns-in-Seal
returns-in-Seal c = rw c.in-Seal.is c.seal.ensures

pub seal-requires : goal.seal-requires
seal-requires c = c.requires.ready.state
