mod Listed
mod Showing
mod Certified
