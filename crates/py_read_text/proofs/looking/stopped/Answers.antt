use Rattle.py_read_text.proofs.Stopping.{stops, stopped_follows, stopped_before}
use Rattle.py_read_text.proofs.looking.stopped.Goals as goal

pub release-requires : goal.release-requires
release-requires c = record { stops = stops c.args.last _ c.args.start c.args.end c.requires.range c.requires.ended }

pub returns-in-Some-clause-follows : goal.returns-in-Some-clause-follows
returns-in-Some-clause-follows c = stopped_follows c.args.last _ _ c.args.start c.args.end c.requires.range c.in_ok-release.ensures.released

pub returns-in-Some-clause-outcome : goal.returns-in-Some-clause-outcome
returns-in-Some-clause-outcome c = stopped_before c.args.last _ _ c.args.start c.args.end c.args.wanted c.in-Some.front c.requires.range c.in_ok-release.ensures.released c.in-Some.ensures.count c.in-Some.ensures.front

pub returns-in-None-clause-follows : goal.returns-in-None-clause-follows
returns-in-None-clause-follows c = stopped_follows c.args.last _ _ c.args.start c.args.end c.requires.range c.in_ok-release.ensures.released
