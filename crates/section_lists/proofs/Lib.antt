mod Listed
mod SectionRun
