use Rattle.ec_cli_answers.proofs.answering.answer.Goals as goal

pub returns-in-Plan-clause-told : goal.returns-in-Plan-clause-told
returns-in-Plan-clause-told g c = λ bytes cert says. rw c.in-Plan.is (c.tell_plan.ensures.told bytes cert says.0)

pub returns-in-Resume-clause-told : goal.returns-in-Resume-clause-told
returns-in-Resume-clause-told g c = λ bytes cert says. rw c.in-Resume.is (c.tell_resume.ensures.told bytes cert says)
