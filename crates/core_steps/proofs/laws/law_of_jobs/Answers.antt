use Rattle.core_steps.proofs.JobSteps.{taking_job, stealing_job, splitting_job, working_job}
use Rattle.core_steps.proofs.laws.law_of_jobs.Goals as goal

pub returns : goal.returns
returns g c =
    let R = g.K.Ord.cmp in
    let path = g.K.PathKey.path_of in
    let answers = g.B.Bulk.answers c.args.bulk.now in
    let divide = c.law_of_cuts.ensures.divide in
    record {
      takes = λ m ds es y w there left job. taking_job R path answers m divide 0 ds es y w there left job;
      steals = λ m ds es y w from there other left job. stealing_job R path answers m divide 0 ds es y w from there other left job;
      splits = λ m grain ds es y w there left job. splitting_job R path answers m divide grain ds es y w there left job;
      works = λ m ds es y w there works job. working_job R path answers m divide 0 (g.B.Bulk.decides c.args.bulk.now) ds es y w there works job;
    }
