-- What run answers.
use Rattle.model.specs.declared.Reply.{Reply}
use Rattle.model.specs.declared.Reply.TheVariants as reply
use Rattle.processor.specs.declared.Finished.{Finished}

-- "commands done, status, fault", and the pixels drawn
abbrev pub ran_reply : Finished → Reply
ran_reply s =
    reply.Ran (record {
      commands = s.count;
      status = s.pane.progress.status;
      fault = s.pane.progress.fault;
      pixels = s.paint;
    })
