mod FirstFailing
mod Walks
